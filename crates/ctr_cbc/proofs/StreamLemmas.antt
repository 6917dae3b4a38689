-- Counter blocks, and a part of the key stream added in place.
use Rattle.std.proofs.Common.{◌≡◌, ℕ, ◌+◌, ◌-◌, ◌/◌, ◌%◌, ◌^◌, ◌<◌, ◌≤◌, List, ◌++◌, length, replicate, get_or, take, drop, bit_xor, refl, sym, ap, ◌∙◌, arith, rules, get_or-take, get_or-drop, length-take, length-drop, length-append}
use Rattle.std.specs.Int.{w64, from_be_bytes, to_be_bytes}
use Rattle.std.proofs.lemmas.List.{places, take_at, drop_at}
use borrow.Rule.Slice.PartMut.{put_mid}
use Rattle.aes128.specs.Cipher.{cipher}
use Rattle.ctr_cbc.specs.KeyStream.{counter_block, stream_byte}

pub counter_of_sixteen : (iv : List ℕ) (n : ℕ) → length iv ≡ 16
    → counter_block iv n ≡ take 8 iv ++ to_be_bytes w64 ((from_be_bytes w64 (drop 8 iv) + n) % 2 ^ 64)
unfolding counter_block
counter_of_sixteen iv n len = rw len refl

counter_of_eight : (iv : List ℕ) (n : ℕ) → length iv ≡ 8 → counter_block iv n ≡ iv ++ to_be_bytes w64 (n % 2 ^ 64)
unfolding counter_block
counter_of_eight iv n len = rw len refl

counter_of_short : (iv : List ℕ) (n : ℕ) → length iv ≡ 8 → counter_block (iv ++ replicate 8 0) n ≡ counter_block iv n
counter_of_short iv n len =
    let long : length (iv ++ replicate 8 0) ≡ 16 = omega (arith, length-append iv (replicate 8 0)) in
    let zeros : from_be_bytes w64 (replicate 8 0) ≡ 0 = refl in
    let start : from_be_bytes w64 (replicate 8 0) + n ≡ n = rw zeros (omega arith) in
    counter_of_sixteen (iv ++ replicate 8 0) n long
    ∙ rw (take_at iv (replicate 8 0) 8 len, drop_at iv (replicate 8 0) 8 len) (ap (λ (m : ℕ). iv ++ to_be_bytes w64 (m % 2 ^ 64)) start)
    ∙ sym (counter_of_eight iv n len)

pub stream_of_short : (key iv : List ℕ) (n : ℕ) → length iv ≡ 8 → stream_byte key (iv ++ replicate 8 0) n ≡ stream_byte key iv n
unfolding stream_byte
stream_of_short key iv n len = rw (counter_of_short iv (n / 16) len) refl

pub before : (a n : ℕ) (xs ys : List ℕ) (k : ℕ) → a ≤ length xs → k < a → get_or (put_mid a n xs ys) k 0 ≡ get_or xs k 0
before a n xs ys k le lt = search (rules, places)

pub inside : (a n : ℕ) (xs ys : List ℕ) (k j : ℕ) → a ≤ length xs → length ys ≡ n → j < n → k ≡ a + j → get_or (put_mid a n xs ys) k 0 ≡ get_or ys j 0
inside a n xs ys k j le len lt e = rw e (search (rules, places))

pub after : (a n : ℕ) (xs ys : List ℕ) (k : ℕ) → a ≤ length xs → length ys ≡ n → a + n ≤ k → get_or (put_mid a n xs ys) k 0 ≡ get_or xs k 0
after a n xs ys k le len past = search (rules, places)

-- the byte of the stream at place m, from the block of place n
same_block : (key iv : List ℕ) (n m i : ℕ) → m ≡ n + i → n % 16 + i < 16 → get_or (cipher key (counter_block iv (n / 16))) (n % 16 + i) 0 ≡ stream_byte key iv m
unfolding stream_byte
same_block key iv n m i e lt =
    let block : m / 16 ≡ n / 16 = omega arith in
    let place : m % 16 ≡ n % 16 + i = omega arith in
    rw (block, place) refl

-- the part of the stream that stands over a part of the bytes
part_added : (key iv : List ℕ) (n a count : ℕ) (xs ys st : List ℕ) (j : ℕ) → a + count ≤ length xs → j < count → n % 16 + count ≤ 16
    → st ≡ cipher key (counter_block iv (n / 16))
    → get_or ys j 0 ≡ bit_xor (get_or (take (a + count - a) (drop a xs)) j 0) (get_or (take (16 - n % 16) (drop (n % 16) st)) j 0)
    → get_or ys j 0 ≡ bit_xor (get_or xs (a + j) 0) (stream_byte key iv (n + j))
part_added key iv n a count xs ys st j le lt fits st-is here =
    let low : j < a + count - a = omega arith in
    let high : j < 16 - n % 16 = omega arith in
    let first : get_or (take (a + count - a) (drop a xs)) j 0 ≡ get_or xs (a + j) 0 = get_or-take (a + count - a) (drop a xs) j 0 low ∙ get_or-drop a xs j 0 in
    let second : get_or (take (16 - n % 16) (drop (n % 16) st)) j 0 ≡ get_or st (n % 16 + j) 0 = get_or-take (16 - n % 16) (drop (n % 16) st) j 0 high ∙ get_or-drop (n % 16) st j 0 in
    here ∙ rw (first, second, st-is) (ap (λ x. bit_xor (get_or xs (a + j) 0) x) (same_block key iv n (n + j) j refl (omega arith)))

-- byte k after a turn of the loop over the bytes from place a on
pub part_at : (key iv : List ℕ) (from a count k : ℕ) (xs ys st old : List ℕ) → a + count ≤ length xs → a ≤ k → k < a + count → (from + a) % 16 + count ≤ 16 → length ys ≡ a + count - a
    → st ≡ cipher key (counter_block iv ((from + a) / 16))
    → ((j : ℕ) → j < length (take (a + count - a) (drop a xs)) → get_or ys j 0 ≡ bit_xor (get_or (take (a + count - a) (drop a xs)) j 0) (get_or (take (16 - (from + a) % 16) (drop ((from + a) % 16) st)) j 0))
    → get_or xs k 0 ≡ get_or old k 0
    → get_or (put_mid a (a + count - a) xs ys) k 0 ≡ bit_xor (get_or old k 0) (stream_byte key iv (from + k))
part_at key iv from a count k xs ys st old le low high fits len st-is each was =
    let there : a + (k - a) ≡ k = omega arith in
    let on : from + a + (k - a) ≡ from + k = omega arith in
    let inner : k - a < length (take (a + count - a) (drop a xs)) = omega (arith, length-take (a + count - a) (drop a xs), length-drop a xs) in
    let added = part_added key iv (from + a) a count xs ys st (k - a) le (omega arith) fits st-is (each (k - a) inner) in
    inside a (a + count - a) xs ys k (k - a) (omega arith) len (omega arith) (sym there) ∙ rw (there, on) at added ∙ ap (λ x. bit_xor x (stream_byte key iv (from + k))) was
