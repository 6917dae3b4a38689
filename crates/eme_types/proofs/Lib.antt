pub mod ReadEach
