pub mod FirstLemmas
pub mod KidsLemmas
pub mod PsshLemmas
pub mod PsshAgain
