-- Little-endian numbers: sizes, reading what was written and back, and numbers of m + n bytes by their parts.
use Rattle.std.proofs.Common.{◌≡◌, ℕ, zero, suc, ◌+◌, ◌-◌, ◌*◌, ◌/◌, ◌%◌, ◌^◌, ◌<◌, ◌≤◌, List, ◌∷◌, ◌++◌, length, get_or, take, drop, sym, refl, ap, ◌∙◌, ap₂, add-zero, mul_assoc, suc-add, mul-le-mul_left, zero-add, mul-suc, arith, pow-add, length-drop, append_assoc, drop-cons, drop-drop, get_or-append-add}
use native.Mathlib.Nat.{pow-succ', div-div-eq-div-mul}
use lib.ListN.{get_or-append}
use lib.Seq.{sets, sets-eq}
use Rattle.std.specs.Int.{w64, from_le_bytes, to_le_bytes}
use Rattle.std.proofs.lemmas.List.{length-take-le, get_or-append_right, get_or-take, get_or-drop}
use borrow.Rule.Slice.PartMut.{put_mid}
use Rattle.int64.specs.Little.{little, bytes_of, NumberAt}
use Rattle.int64.proofs.Stores.{one_further, sets-append, get_d_sets-inside}

-- ---- sizes

pub length_bytes_of : (n x : ℕ) → length (bytes_of n x) ≡ n
unfolding bytes_of
length_bytes_of zero x = refl
length_bytes_of (suc n) x = ap suc (length_bytes_of n (x / 256))

pub bytes_of_below : (n x i : ℕ) → get_or (bytes_of n x) i 0 < 256
unfolding bytes_of
bytes_of_below zero x i = omega arith
bytes_of_below (suc n) x zero = omega arith
bytes_of_below (suc n) x (suc i) = bytes_of_below n (x / 256) i

pub little-below : (n : ℕ) (bs : List ℕ) (at : ℕ) → ((i : ℕ) → get_or bs i 0 < 256) → little n bs at < 256 ^ n
unfolding little
little-below zero bs at h = omega arith
little-below (suc n) bs at h = rw (pow-succ' 256 n) (omega (arith, h at, little-below n bs (suc at) h))

-- ---- a number depends on its n bytes alone

pub little-same :
    (n : ℕ) (bs cs : List ℕ) (i j : ℕ) → ((k : ℕ) → k < n → get_or bs (i + k) 0 ≡ get_or cs (j + k) 0) → little n bs i ≡ little n cs j
unfolding little
little-same zero bs cs i j h = refl
little-same (suc n) bs cs i j h =
    ap₂ (λ (b r : ℕ). b + 256 * r)
    (rw (add-zero i, add-zero j) at (h 0 (omega arith)))
    (little-same n bs cs (suc i) (suc j) (λ k l. rw (one_further i k, one_further j k) at (h (suc k) (omega arith))))

-- ---- reading what was written

-- the bytes after the first
little-tail : (n : ℕ) (b : ℕ) (bs : List ℕ) → little n (b ∷ bs) 1 ≡ little n bs 0
little-tail n b bs = little-same n (b ∷ bs) bs 1 0 (λ k l. rw (suc-add 0 k, zero-add k))

pub little_bytes_of : (n x : ℕ) → x < 256 ^ n → little n (bytes_of n x) 0 ≡ x
unfolding little bytes_of
little_bytes_of zero x h = omega arith
little_bytes_of (suc n) x h =
    let h' : x < 256 * 256 ^ n = rw (pow-succ' 256 n) at h in
    let e : little n (bytes_of (suc n) x) 1 ≡ x / 256 = little-tail n (x % 256) (bytes_of n (x / 256)) ∙ little_bytes_of n (x / 256) (omega arith) in
    rw e (omega arith)

pub little-written : (n x : ℕ) (xs ys : List ℕ) → x < 256 ^ n → little n (xs ++ (bytes_of n x ++ ys)) (length xs) ≡ x
little-written n x xs ys h =
    little-same n (xs ++ (bytes_of n x ++ ys)) (bytes_of n x) (length xs) 0
    (λ k l. rw (get_or-append-add xs (bytes_of n x ++ ys) k 0, zero-add k) (get_or-append (bytes_of n x) ys 0 k (omega (arith, length_bytes_of n x))))
    ∙ little_bytes_of n x h

pub little-stored : (n x : ℕ) (l : List ℕ) (at : ℕ) → x < 256 ^ n → at + n ≤ length l → little n (sets l at (bytes_of n x)) at ≡ x
little-stored n x l at h b =
    little-same n (sets l at (bytes_of n x)) (bytes_of n x) at 0
    (λ k l'. rw (zero-add k) (get_d_sets-inside l at (bytes_of n x) k 0 (omega (arith, length_bytes_of n x)) (omega arith)))
    ∙ little_bytes_of n x h

-- ---- and back

pub bytes_of_little : (n : ℕ) (bs : List ℕ) (at : ℕ) → ((i : ℕ) → get_or bs i 0 < 256) → at + n ≤ length bs → bytes_of n (little n bs at) ≡ take n (drop at bs)
unfolding little bytes_of
bytes_of_little zero bs at h b = refl
bytes_of_little (suc n) bs at h b =
    let r : ℕ = little n bs (suc at) in
    let low : (get_or bs at 0 + 256 * r) % 256 ≡ get_or bs at 0 = omega (arith, h at) in
    let high : (get_or bs at 0 + 256 * r) / 256 ≡ r = omega (arith, h at) in
    rw (low, high, drop-cons bs at 0 (omega arith)) (ap (λ (t : List ℕ). get_or bs at 0 ∷ t) (bytes_of_little n bs (suc at) h (omega arith)))

-- ---- numbers of m + n bytes

pub little_add : (m n : ℕ) (bs : List ℕ) (at : ℕ) → little (m + n) bs at ≡ little m bs at + 256 ^ m * little n bs (at + m)
unfolding little
little_add zero n bs at = rw (zero-add n, add-zero at) (omega arith)
little_add (suc m) n bs at =
    let r : ℕ = little n bs (suc at + m) in
    let p : 256 ^ suc m * r ≡ 256 * (256 ^ m * r) = rw (pow-succ' 256 m) (mul_assoc 256 (256 ^ m) r) in
    rw (suc-add m n, one_further at m, p, little_add m n bs (suc at)) (omega arith)

pub bytes_of_add : (m n x : ℕ) → bytes_of (m + n) x ≡ bytes_of m x ++ bytes_of n (x / 256 ^ m)
unfolding bytes_of
bytes_of_add zero n x = ap₂ bytes_of (zero-add n) (let e : x ≡ x / 1 = omega arith in e)
bytes_of_add (suc m) n x =
    rw (suc-add m n, bytes_of_add m n (x / 256), div-div-eq-div-mul x 256 (256 ^ m), pow-succ' 256 m)

parts_below : (P Q r s : ℕ) → r < P → s < Q → r + P * s < P * Q
parts_below P Q r s h k =
    let e : P * suc s ≤ P * Q = mul-le-mul_left P k in
    omega (arith, e, mul-suc P s)

pub number_add : (m n : ℕ) (bs : List ℕ) (at r s : ℕ) → NumberAt m bs at r → NumberAt n bs (at + m) s → NumberAt (m + n) bs at (r + 256 ^ m * s)
number_add m n bs at r s a b =
    record {
      equal = ap₂ (λ (x y : ℕ). x + 256 ^ m * y) a.equal b.equal ∙ sym (little_add m n bs at);
      below = rw (pow-add 256 m n) (parts_below (256 ^ m) (256 ^ n) r s a.below b.below);
    }

-- the low m bytes, and then the next n behind them
pub stored_add : (m n x at : ℕ) (l l₁ l₂ : List ℕ) → l₁ ≡ sets l at (bytes_of m x) → l₂ ≡ sets l₁ (at + m) (bytes_of n (x / 256 ^ m)) → l₂ ≡ sets l at (bytes_of (m + n) x)
stored_add m n x at l l₁ l₂ e₁ e₂ =
    let ys : List ℕ = bytes_of n (x / 256 ^ m) in
    e₂ ∙ ap₂ (λ (t : List ℕ) (k : ℕ). sets t (at + k) ys) e₁ (sym (length_bytes_of m x))
    ∙ sets-append l at (bytes_of m x) ys
    ∙ ap (sets l at) (sym (bytes_of_add m n x))

-- ---- numbers of n bytes in a longer one

little-zeros : (n : ℕ) (bs : List ℕ) (at : ℕ) → ((k : ℕ) → get_or bs (at + k) 0 ≡ 0) → little n bs at ≡ 0
unfolding little
little-zeros zero bs at h = refl
little-zeros (suc n) bs at h =
    let first : get_or bs at 0 ≡ 0 = rw (add-zero at) at (h 0) in
    let later : little n bs (suc at) ≡ 0 = little-zeros n bs (suc at) (λ k. rw (one_further at k) at (h (suc k))) in
    omega arith

-- the bytes after the first n are 0
pub little-padded :
    (n m : ℕ) (bs cs : List ℕ) (i j : ℕ) → n ≤ m → ((k : ℕ) → k < n → get_or bs (i + k) 0 ≡ get_or cs (j + k) 0) → ((k : ℕ) → n ≤ k → get_or bs (i + k) 0 ≡ 0) → little m bs i ≡ little n cs j
unfolding little
little-padded zero m bs cs i j h same zeros = little-zeros m bs i (λ k. zeros k (omega arith))
little-padded (suc n) zero bs cs i j h same zeros = absurd (omega arith)
little-padded (suc n) (suc m) bs cs i j h same zeros =
    ap₂ (λ (b r : ℕ). b + 256 * r)
    (rw (add-zero i, add-zero j) at (same 0 (omega arith)))
    (little-padded n m bs cs (suc i) (suc j) (omega arith) (λ k l. rw (one_further i k, one_further j k) at (same (suc k) (omega arith))) (λ k l. rw (one_further i k) at (zeros (suc k) (omega arith))))

pub bytes_of-taken : (n m x : ℕ) → n ≤ m → take n (bytes_of m x) ≡ bytes_of n x
unfolding bytes_of
bytes_of-taken zero m x h = refl
bytes_of-taken (suc n) zero x h = absurd (omega arith)
bytes_of-taken (suc n) (suc m) x h = ap (λ (t : List ℕ). x % 256 ∷ t) (bytes_of-taken n m (x / 256) (omega arith))

-- ---- eight bytes, as the methods of u64 read and give them

eight-read : (bs : List ℕ) → from_le_bytes w64 bs ≡ little 8 bs 0
unfolding little
eight-read bs = omega arith

eight-given : (x : ℕ) → to_le_bytes w64 x ≡ bytes_of 8 x
unfolding bytes_of
eight-given x = simp div-div-eq-div-mul

-- the n bytes at `at`, laid over zeros
pub number_read :
    (n : ℕ) (bs low zs : List ℕ) (at r : ℕ) → at + n ≤ length bs → n ≤ 8 → ((i : ℕ) → get_or bs i 0 < 256) → low ≡ take (at + n - at) (drop at bs) → ((k : ℕ) → get_or zs k 0 ≡ 0) → r ≡ from_le_bytes w64 (low ++ drop n zs) → NumberAt n bs at r
number_read n bs low zs at r h l bytes e' zeros v =
    let size : at + n - at ≡ n = omega arith in
    let e : low ≡ take n (drop at bs) = rw size at e' in
    let part : n ≤ length (drop at bs) = omega (arith, length-drop at bs) in
    let len : length low ≡ n = ap length e ∙ length-take-le n (drop at bs) part in
    let cs : List ℕ = low ++ drop n zs in
    let first : (k : ℕ) → k < n → get_or cs (0 + k) 0 ≡ get_or bs (at + k) 0 =
    λ k i.
    rw (zero-add k)
    (get_or-append low (drop n zs) 0 k (omega arith)
    ∙ ap (λ (t : List ℕ). get_or t k 0) e
    ∙ get_or-take n (drop at bs) k 0 i
    ∙ get_or-drop at bs k 0) in
    let others : (k : ℕ) → n ≤ k → get_or cs (0 + k) 0 ≡ 0 =
    λ k i.
    rw (zero-add k) (get_or-append_right low (drop n zs) n k 0 len i ∙ get_or-drop n zs (k - n) 0 ∙ zeros (n + (k - n))) in
    let is : r ≡ little n bs at = v ∙ eight-read cs ∙ little-padded n 8 cs bs 0 at l first others in
    record { equal = is; below = rw is (little-below n bs at bytes) }

-- the n low bytes of x, stored
pub number-written :
    (n : ℕ) (l low : List ℕ) (at x : ℕ) → at + n ≤ length l → n ≤ 8 → low ≡ take n (to_le_bytes w64 x) → put_mid at (at + n - at) l low ≡ sets l at (bytes_of n x)
number-written n l low at x h b e =
    let low_is : low ≡ bytes_of n x = e ∙ ap (take n) (eight-given x) ∙ bytes_of-taken n 8 x b in
    let len : length (bytes_of n x) ≡ n = length_bytes_of n x in
    let size : at + n - at ≡ n = omega arith in
    rw (low_is, size, sets-eq (bytes_of n x) l at (omega arith), len, drop-drop, append_assoc) refl
