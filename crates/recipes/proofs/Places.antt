-- Where a record belongs among records, and the same of rows.
use Rattle.std.proofs.Common.{◌≡◌, ℕ, ◌+◌, ◌<◌, ◌≤◌, Bool, true, false, cond, List, [], ◌∷◌, map, length, get_or, take, drop, ℤ, Less, Equal, Greater, Some, None, Ok, Err, sym, refl, ap, ◌∙◌, ap₂, ⊎_elim, arith}
use Rattle.std.specs.List.{prefix_len}
use Rattle.std.specs.Result.{result_ok}
use Rattle.std.specs.Ordering.{is_lt, is_eq}
use Rattle.std.proofs.lemmas.Bool.{both_ways, cases_lt}
use Rattle.std.proofs.lemmas.List.{take-map, drop-map, map-append, drop_more, length-take-le, length-map, drop_all}
use Rattle.std.proofs.lemmas.List.Sums.{prefix_len-le-length}
use Rattle.records.specs.Kind.{Kind, ordering}
use Rattle.recipes.specs.Rows.{looked_up, seen}
use Rattle.recipes.specs.Slots.{State, live, place_of, begins, is_among, with_entered, with_struck}

-- a comparison says `Less` just of a record that comes before
less_is : (k : Kind) (x r : List ℤ) → is_lt (ordering k x r) ≡ k.before x r
less_is k x r = go (k.before x r) (k.before r x)
  where
    go : (p q : Bool) → is_lt (cond p Less (cond q Greater Equal)) ≡ p
    go true q = refl
    go false true = refl
    go false false = refl

among_past : (k : Kind) (r : List ℤ) (xs : List (List ℤ)) → length xs ≤ place_of k r xs → is_among k r xs ≡ false
among_past k r xs past = ap (begins k r) (drop_all (place_of k r xs) xs past)

-- r stands at place p of the live records
pub record Found (k : Kind) (r : List ℤ) (s : State) (p : ℕ) : Type 0 where
  pub among : is_among k r (live s) ≡ true
  pub at : p ≡ place_of k r (live s)
  pub within : p < s.count

-- or it would belong there
pub record Missed (k : Kind) (r : List ℤ) (s : State) (p : ℕ) : Type 0 where
  pub among : is_among k r (live s) ≡ false
  pub at : p ≡ place_of k r (live s)
  pub within : p ≤ s.count

module _ {X : Type 0} (numbers : X → List ℤ) (k : Kind) (r : List ℤ) where
  pub place_rows : (rows : List X) → prefix_len (λ y. is_lt (ordering k (numbers y) r)) rows ≡ place_of k r (map numbers rows)
  place_rows [] = refl
  place_rows (y ∷ rows) = ap₂ (λ b n. cond b (1 + n) 0) (less_is k (numbers y) r) (place_rows rows)

  module _ (rows : List X) (p : ℕ) (at : p ≡ place_of k r (map numbers rows)) where
    among_at : (y : X) → p < length rows → y ≡ get_or rows p y → is_eq (ordering k (numbers y) r) ≡ is_among k r (map numbers rows)
    among_at y within read =
        ap (λ z. is_eq (ordering k (numbers z) r)) read
        ∙ sym (ap (begins k r) (drop-map numbers p rows ∙ ap (map numbers) (drop_more rows p y within)))
        ∙ ap (λ q. begins k r (drop q (map numbers rows))) at

    -- what stands at its place is r, or another record
    pub looked_here : (y : X) → p < length rows → y ≡ get_or rows p y → is_eq (ordering k (numbers y) r) ≡ true → Ok p ≡ looked_up k r (map numbers rows)
    looked_here y within read e = let f = sym (among_at y within read) ∙ e in rw f (ap Ok at)

    pub looked_other : (y : X) → p < length rows → y ≡ get_or rows p y → is_eq (ordering k (numbers y) r) ≡ false → Err p ≡ looked_up k r (map numbers rows)
    looked_other y within read e = let f = sym (among_at y within read) ∙ e in rw f (ap Err at)

  module _ (rows : List X) (n p : ℕ) (fits : n ≤ length rows) where
    front : map numbers (take n rows) ≡ live (seen numbers rows n)
    front = sym (take-map numbers n rows)

    front_length : length (live (seen numbers rows n)) ≡ n
    front_length = ap length (sym front) ∙ length-map (take n rows) numbers ∙ length-take-le n rows fits

    -- what a look at the first n rows found
    pub found : Some p ≡ result_ok (looked_up k r (map numbers (take n rows))) → Found k r (seen numbers rows n) p
    found e = go (is_among k r (live (seen numbers rows n))) refl (e ∙ ap (λ xs. result_ok (looked_up k r xs)) front)
      where
        go : (b : Bool) → is_among k r (live (seen numbers rows n)) ≡ b
            → Some p ≡ result_ok (cond b (Ok (place_of k r (live (seen numbers rows n)))) (Err (place_of k r (live (seen numbers rows n))))) → Found k r (seen numbers rows n) p
        go false a f = let z : ◌≡◌ {A = ℕ} 0 1 = cc in absurd (omega arith)
        go true a f =
            let at : p ≡ place_of k r (live (seen numbers rows n)) = cc in
            record {
              among = a;
              at = at;
              within = ⊎_elim (λ h. h) (λ h. absurd (both_ways _ (among_past k r _ (omega (arith, front_length))) a)) (cases_lt p n);
            }

    pub missed : Err p ≡ looked_up k r (map numbers (take n rows)) → Missed k r (seen numbers rows n) p
    missed e = go (is_among k r (live (seen numbers rows n))) refl (e ∙ ap (looked_up k r) front)
      where
        go : (b : Bool) → is_among k r (live (seen numbers rows n)) ≡ b
            → Err p ≡ cond b (Ok (place_of k r (live (seen numbers rows n)))) (Err (place_of k r (live (seen numbers rows n)))) → Missed k r (seen numbers rows n) p
        go true a f = let z : ◌≡◌ {A = ℕ} 0 1 = cc in absurd (omega arith)
        go false a f =
            let at : p ≡ place_of k r (live (seen numbers rows n)) = cc in
            record { among = a; at = at; within = omega (arith, prefix_len-le-length (λ x. k.before x r) (live (seen numbers rows n)), front_length) }

-- what no look found
pub absent : {X : Type 0} (numbers : X → List ℤ) (k : Kind) (r : List ℤ) (rows : List X) (n : ℕ) → None ≡ result_ok (looked_up k r (map numbers (take n rows)))
    → is_among k r (live (seen numbers rows n)) ≡ false
absent numbers k r rows n e = go (is_among k r (live (seen numbers rows n))) (e ∙ ap (λ xs. result_ok (looked_up k r xs)) (sym (take-map numbers n rows)))
  where
    go : (b : Bool) → None ≡ result_ok (cond b (Ok (place_of k r (live (seen numbers rows n)))) (Err (place_of k r (live (seen numbers rows n))))) → b ≡ false
    go true f = let z : ◌≡◌ {A = ℕ} 0 1 = cc in absurd (omega arith)
    go false f = refl

-- what is said of the rows is said of their numbers
pub entered_numbers : {X : Type 0} (numbers : X → List ℤ) (rows : List X) (n p : ℕ) (y : X) → map numbers (with_entered rows n p y) ≡ with_entered (map numbers rows) n p (numbers y)
entered_numbers numbers rows n p y = simp (map-append, take-map, drop-map)

pub struck_numbers : {X : Type 0} (numbers : X → List ℤ) (rows : List X) (n p : ℕ) → map numbers (with_struck rows n p) ≡ with_struck (map numbers rows) n p
struck_numbers numbers rows n p = simp (map-append, take-map, drop-map)
