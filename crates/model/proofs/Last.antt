-- A record is live exactly where the history has an accepted enter that names it, and no accepted call after that one names it.
use Rattle.std.proofs.Common.{◌≡◌, ℕ, ◌↔◌, List, [], ◌∷◌, ◌++◌, ℤ, sym, refl, ap, ◌∙◌, subst, inl, inr, arith}
use Rattle.records.specs.Line.{Section}
use Rattle.model.specs.History.{Call, enter, strike, clear, History, Layout, Names, Accepted, Live, LastEntered}

cons_same : (x y : Call) (xs ys : History) → x ∷ xs ≡ y ∷ ys → (x ≡ y) × (xs ≡ ys)
cons_same x y xs ys e = (cc, cc)

nil_not : (l : History) (x : Call) (r : History) → [] ≡ l ++ (x ∷ r) → ⊥
nil_not [] x r e = let z : ◌≡◌ {A = ℕ} 0 1 = cc in omega arith
nil_not (y ∷ l) x r e = let z : ◌≡◌ {A = ℕ} 0 1 = cc in omega arith

module _ (c : Layout) (s : Section) (r : List ℤ) where
  entered_now : (h : History) (line : List ℕ) → Accepted c (Live c h) (enter line) → Names c (enter line) s r → LastEntered c (enter line ∷ h) s r
  entered_now h line acc n =
      record { later = []; line = line; earlier = h; split = refl; accepted = acc; names = n; last = λ l₂ call l₁ e. absurd (nil_not l₂ call l₁ e) }

  entered_before : (call : Call) (h : History) → ((Accepted c (Live c h) call × Names c call s r) → ⊥) → LastEntered c h s r
      → LastEntered c (call ∷ h) s r
  entered_before call h f l =
      record {
        later = call ∷ l.later;
        line = l.line;
        earlier = l.earlier;
        split = ap (λ t. call ∷ t) l.split;
        accepted = l.accepted;
        names = l.names;
        last = go;
      }
    where
      go : (l₂ : History) (d : Call) (l₁ : History) → call ∷ l.later ≡ l₂ ++ (d ∷ l₁) → Accepted c (Live c (l₁ ++ (enter l.line ∷ l.earlier))) d
          → Names c d s r → ⊥
      go [] d l₁ e acc n =
          let p = cons_same call d l.later l₁ e in
          let whole : l₁ ++ (enter l.line ∷ l.earlier) ≡ h = ap (λ t. t ++ (enter l.line ∷ l.earlier)) (sym p.1) ∙ sym l.split in
          let acc' = subst (λ g. Accepted c (Live c g) d) whole acc in
          f (subst (λ x. Accepted c (Live c h) x) (sym p.0) acc', subst (λ x. Names c x s r) (sym p.0) n)
      go (x ∷ l₂) d l₁ e acc n = l.last l₂ d l₁ (cons_same call x l.later (l₂ ++ (d ∷ l₁)) e).1 acc n

  live_last : (h : History) → Live c h s r → LastEntered c h s r
  live_last [] l = absurd l
  live_last (enter line ∷ h) (inl p) = entered_now h line p.0.0 p.0.1
  live_last (strike line ∷ h) (inl p) = absurd p.1
  live_last (clear ∷ h) (inl p) = absurd p.1
  live_last (call ∷ h) (inr p) = entered_before call h p.0 (live_last h p.1)

  last_live : (later : History) (line : List ℕ) (earlier : History) → Accepted c (Live c earlier) (enter line) → Names c (enter line) s r
      → ((l₂ : History) (call : Call) (l₁ : History) → later ≡ l₂ ++ (call ∷ l₁) → Accepted c (Live c (l₁ ++ (enter line ∷ earlier))) call
      → Names c call s r → ⊥)
      → Live c (later ++ (enter line ∷ earlier)) s r
  last_live [] line earlier acc n last = inl ((acc, n), tt)
  last_live (d ∷ later) line earlier acc n last =
      inr (λ p. last [] d later refl p.0 p.1, last_live later line earlier acc n (λ l₂ call l₁ e. last (d ∷ l₂) call l₁ (ap (λ t. d ∷ t) e)))

pub live_means : (c : Layout) (h : History) (s : Section) (r : List ℤ) → Live c h s r ↔ LastEntered c h s r
live_means c h s r = (
  live_last c s r h,
  λ l. subst (λ g. Live c g s r) (sym l.split) (last_live c s r l.later l.line l.earlier l.accepted l.names l.last),
)
