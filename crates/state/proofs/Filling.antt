-- An array that is filled from its front becomes a table; one that begins with the same element throughout may have some passed over.
use mathlib.Core.Path.{◌≡◌, refl, sym, ap, ◌∙◌}
use mathlib.Core.List.{List, [], ◌∷◌, ◌++◌}
use Prim.Native.Nat.{ℕ, ◌+◌, ◌-◌, ◌<◌, ◌≤◌}
use native.Mathlib.Omega.{arith}
use native.Mathlib.Numerals.{add-one}
use lib.ListN.{length, get_or, take, drop, set, replicate, length-set, length-drop, length-replicate, get_or-replicate, get_or-append}
use lib.Seq.{take-suc-set, take_all, ext_get_or}
use borrow.Rule.Slice.PartMut.{put_mid, same_len_mid}
use Rattle.std.proofs.lemmas.List.{length-take-le, get_or-take, get_or-drop, get_or-append_right}
use Rattle.facts.proofs.Tests.{by-below}
use Rattle.state.specs.Reading.{table}
use Rattle.state.proofs.Tables.{table_more, list_table, length-table, get_d_table}

-- so far: an array of n elements whose first i are the table's
pub record Filled {A : Type 0} (f : ℕ → A) (n i : ℕ) (l : List A) : Type 0 where
  pub in_all : length l ≡ n
  pub at_most : i ≤ n
  pub first : take i l ≡ table f i

module _ {A : Type 0} (f : ℕ → A) (n : ℕ) where
  pub filled_none : (l : List A) → length l ≡ n → Filled f n 0 l
  unfolding table
  filled_none l e = record { in_all = e; at_most = omega arith; first = refl }

  pub filled_more : (l : List A) (i : ℕ) (a : A) → Filled f n i l → i < n → a ≡ f i → Filled f n (i + 1) (set l i a)
  filled_more l i a x h e = record {
    in_all = length-set l i a ∙ x.in_all;
    at_most = omega arith;
    first =
        ap (λ (k : ℕ). take k (set l i a)) (add-one i)
        ∙ take-suc-set l i a (omega (arith, x.in_all))
        ∙ ap (λ (t : List A). t ++ (a ∷ [])) x.first
        ∙ ap (λ (b : A). table f i ++ (b ∷ [])) e
        ∙ sym (table_more f i);
  }

  pub filled_all : (l : List A) (i : ℕ) → Filled f n i l → n ≤ i → l ≡ table f n
  filled_all l i x h =
      let e : i ≡ n = omega (arith, x.at_most) in
      sym (take_all n l (omega (arith, x.in_all))) ∙ ap (λ (k : ℕ). take k l) (sym e) ∙ x.first ∙ ap (table f) e

-- ---- a part of w elements

pub part_length : {A : Type 0} (a w e : ℕ) (xs : List A) → a + w ≤ length xs → e ≡ a + w → length (take (e - a) (drop a xs)) ≡ w
part_length a w e xs h p =
    let size : e - a ≡ w = omega arith in
    let enough : w ≤ length (drop a xs) = omega (arith, length-drop a xs) in
    rw size (length-take-le w (drop a xs) enough)

-- ---- what stands in a list after a write to k of its elements, from the a-th on

module _ {A : Type 0} (a k : ℕ) (xs ys : List A) where
  put_front : a ≤ length xs → length (take a xs) ≡ a
  put_front h = length-take-le a xs h

  pub put_length : length ys ≡ k → a + k ≤ length xs → length (put_mid a k xs ys) ≡ length xs
  put_length e h = same_len_mid a k xs ys (e ∙ sym (length-take-le k (drop a xs) (omega (arith, length-drop a xs))))

  pub put_before : (j : ℕ) (d : A) → j < a → a ≤ length xs → get_or (put_mid a k xs ys) j d ≡ get_or xs j d
  put_before j d q h = get_or-append (take a xs) _ d j (omega (arith, put_front h)) ∙ get_or-take a xs j d q

  pub put_inside : (j : ℕ) (d : A) → j < length ys → a ≤ length xs → get_or (put_mid a k xs ys) (a + j) d ≡ get_or ys j d
  put_inside j d q h =
      let e : a + j - a ≡ j = omega arith in
      get_or-append_right (take a xs) (ys ++ drop k (drop a xs)) a (a + j) d (put_front h) (omega arith)
      ∙ ap (λ (i : ℕ). get_or (ys ++ drop k (drop a xs)) i d) e
      ∙ get_or-append ys _ d j q

  pub put_after : (j : ℕ) (d : A) → length ys ≡ k → a + k ≤ length xs → a + k ≤ j → get_or (put_mid a k xs ys) j d ≡ get_or xs j d
  put_after j d e h q =
      let there : a + (k + (j - a - k)) ≡ j = omega arith in
      get_or-append_right (take a xs) (ys ++ drop k (drop a xs)) a j d (put_front (omega arith)) (omega arith)
      ∙ get_or-append_right ys (drop k (drop a xs)) k (j - a) d e (omega arith)
      ∙ get_or-drop k (drop a xs) (j - a - k) d
      ∙ get_or-drop a xs (k + (j - a - k)) d
      ∙ ap (λ (i : ℕ). get_or xs i d) there

-- ---- an array filled in runs

-- so far: an array that began as n times z, whose first i are the table's; the others still are z
pub record Begun {A : Type 0} (f : ℕ → A) (z : A) (n i : ℕ) (l : List A) : Type 0 where
  pub in_all : length l ≡ n
  pub at_most : i ≤ n
  pub first : (j : ℕ) → j < i → get_or l j z ≡ f j
  pub rest : (j : ℕ) → i ≤ j → j < n → get_or l j z ≡ z

module _ {A : Type 0} (f : ℕ → A) (z : A) (n : ℕ) where
  pub begun-none : Begun f z n 0 (replicate n z)
  begun-none = record {
    in_all = length-replicate n z;
    at_most = omega arith;
    first = λ j p. absurd (omega arith);
    rest = λ j p q. get_or-replicate n j z z q;
  }

  module _ (l : List A) (i : ℕ) (x : Begun f z n i l) where
    -- the next w elements still are z
    pub begun-part : (w e : ℕ) → i + w ≤ n → e ≡ i + w → take (e - i) (drop i l) ≡ replicate (length (take (e - i) (drop i l))) z
    begun-part w e h p =
        let size : e - i ≡ w = omega arith in
        let enough : w ≤ length (drop i l) = omega (arith, length-drop i l, x.in_all) in
        let len : length (take w (drop i l)) ≡ w = length-take-le w (drop i l) enough in
        rw (size, len)
        (ext_get_or z _ _ (len ∙ sym (length-replicate w z))
        (λ j q.
        let k : j < w = omega arith in
        get_or-take w (drop i l) j z k ∙ get_or-drop i l j z ∙ x.rest (i + j) (omega arith) (omega arith) ∙ sym (get_or-replicate w j z z k)))

    -- w elements more
    pub begun-run : (w e : ℕ) (ys : List A) → i + w ≤ n → e ≡ i + w → ys ≡ table (λ j. f (i + j)) w → Begun f z n (i + w) (put_mid i (e - i) l ys)
    begun-run w e ys h p q =
        let size : e - i ≡ w = omega arith in
        let len : length ys ≡ w = ap length q ∙ length-table (λ j. f (i + j)) w in
        rw size record {
          in_all = put_length i w l ys len (omega (arith, x.in_all)) ∙ x.in_all;
          at_most = h;
          first = λ j k.
              by-below j i
              (λ r. put_before i w l ys j z r (omega (arith, x.in_all)) ∙ x.first j r)
              (λ r.
              let there : i + (j - i) ≡ j = omega arith in
              ap (λ (m : ℕ). get_or (put_mid i w l ys) m z) (sym there)
              ∙ put_inside i w l ys (j - i) z (omega arith) (omega (arith, x.in_all))
              ∙ ap (λ (t : List A). get_or t (j - i) z) q
              ∙ get_d_table (λ m. f (i + m)) w (j - i) z (omega arith)
              ∙ ap f there);
          rest = λ j k r. put_after i w l ys j z len (omega (arith, x.in_all)) k ∙ x.rest j (omega arith) r;
        }

    pub begun_all : n ≤ i → l ≡ table f n
    begun_all h = list_table l f n z x.in_all (λ j q. x.first j (omega arith))
