-- Every history has one sheet, which is read as the records it was written from, and equal sheets have the same records.
use Rattle.std.proofs.Common.{◌≡◌, ℕ, ltb, ◌↔◌, List, [], ◌++◌, length, drop, sym, refl, ap, ◌∙◌, subst, ap₂, append-nil, arith}
use mathlib.Core.Logic.Iff
use Rattle.std.specs.List.{AllByRecursion}
use Rattle.std.proofs.lemmas.List.{drop_all, length-drop}
use Rattle.std.proofs.lemmas.Bool.{le-ltb, ltb-false}
use Rattle.records.specs.Kind.{Kind, Lawful}
use Rattle.records.specs.Line.{Section, first, second}
use Rattle.records.specs.Outcome.{plain, got}
use Rattle.model.specs.History.{History, Layout, over, kind, Listed, Live}
use Rattle.model.specs.Law.{Byte, OneSheet, SameLive, SameSheets}
use Rattle.model.specs.Reading.{behind, read_frame, Both, read_sheet}
use Rattle.model.specs.Sheet.{frame, Sheet}
use Rattle.model.proofs.Frames.{Content, frame_behind, frame_read, frame_sound}
use Rattle.model.proofs.Live.{laws_over, listed_by, listed_records, listed_unique, live_records}
use Rattle.model.proofs.Orders.{Row}
use Rattle.model.proofs.Outcomes.{got_same, refuse_got, refuse_pass, then_got, then_pass}
use Rattle.model.proofs.States.{state}

abbrev pub both : List Row → List Row → Both
both xs ys = record { in₁ = xs; in₂ = ys }

module _ (a b : Kind) (la : Lawful a) (lb : Lawful b) where
  sheet_read : (xs ys : List Row) → Content a xs → Content b ys → read_sheet a b (frame a xs ++ frame b ys) ≡ got (both xs ys)
  sheet_read xs ys ra rb =
      let bytes = frame a xs ++ frame b ys in
      let at = behind bytes 0 in
      let end = behind bytes at in
      let here : drop at bytes ≡ frame b ys ++ [] = frame_behind a la bytes 0 xs ra (frame b ys) refl ∙ sym (append-nil (frame b ys)) in
      let none : drop end bytes ≡ [] = frame_behind b lb bytes at ys rb [] here in
      then_pass (read_frame a bytes 0) _ xs (frame_read a la bytes 0 xs ra (frame b ys) refl)
      ∙ then_pass (read_frame b bytes at) _ ys (frame_read b lb bytes at ys rb [] here)
      ∙ refuse_pass (ltb end (length bytes)) (plain 27 end) (got (both xs ys))
      (le-ltb end (length bytes) (omega (arith, length-drop end bytes, ap length none)))

  pub sheet_sound : (bytes : List ℕ) (z : Both) → AllByRecursion Byte bytes → read_sheet a b bytes ≡ got z
      → Content a z.in₁ × Content b z.in₂ × (bytes ≡ frame a z.in₁ ++ frame b z.in₂)
  sheet_sound bytes z all e =
      let at = behind bytes 0 in
      let end = behind bytes at in
      let one = then_got (read_frame a bytes 0) _ z e in
      let xs = one.0 in
      let two = then_got (read_frame b bytes at) _ z one.2 in
      let ys = two.0 in
      let last = refuse_got (ltb end (length bytes)) (plain 27 end) (got (both xs ys)) z two.2 in
      let s1 = frame_sound a la bytes 0 xs all one.1 in
      let s2 = frame_sound b lb bytes at ys all two.1 in
      let none : drop end bytes ≡ [] = drop_all end bytes (ltb-false end (length bytes) last.0) in
      let full : drop at bytes ≡ frame b ys = s2.1 ∙ ap (λ l. frame b ys ++ l) none ∙ append-nil (frame b ys) in
      subst (λ y. Content a y.in₁ × Content b y.in₂ × (bytes ≡ frame a y.in₁ ++ frame b y.in₂))
      (got_same (got (both xs ys)) (both xs ys) z refl last.1)
      (s1.0, s2.0, s1.1 ∙ ap (λ l. frame a xs ++ l) full)

module _ (c : Layout) (laws : (s : Section) → Lawful (kind c s)) (h : History) where
  same_list : (s : Section) (xs ys : List Row) → Listed (kind c s) (Live c h s) xs → Listed (kind c s) (Live c h s) ys → xs ≡ ys
  same_list s = listed_unique (kind c s) (laws s) (Live c h s) (live_records c laws h s)

  -- a frame may hold what is live
  pub live_content : (s : Section) (xs : List Row) → Listed (kind c s) (Live c h s) xs → Content (kind c s) xs
  live_content s xs l =
      let st = state c laws h s in
      record {
        records = listed_records (kind c s) (Live c h s) xs (live_records c laws h s) l;
        rising = l.rising;
        few = omega (arith, ap length (same_list s xs st.list l st.listed), st.few);
      }

  -- a sheet is read as what it was written from
  pub sheet_reads : (bytes : List ℕ) (sh : Sheet c h bytes) → read_sheet c.kind₁ c.kind₂ bytes ≡ got (both sh.records₁ sh.records₂)
  sheet_reads bytes sh =
      ap (read_sheet c.kind₁ c.kind₂) sh.written
      ∙ sheet_read c.kind₁ c.kind₂ (laws first) (laws second) sh.records₁ sh.records₂
      (live_content first sh.records₁ sh.listed₁) (live_content second sh.records₂ sh.listed₂)

  pub sheet_some : (bytes : List ℕ) × Sheet c h bytes
  sheet_some =
      let st = state c laws h in (
        frame c.kind₁ (st first).list ++ frame c.kind₂ (st second).list,
        record { records₁ = (st first).list; records₂ = (st second).list; listed₁ = (st first).listed; listed₂ = (st second).listed; written = refl },
      )

  pub sheet_only : (bytes bytes' : List ℕ) → Sheet c h bytes → Sheet c h bytes' → bytes ≡ bytes'
  sheet_only bytes bytes' p q =
      p.written
      ∙ ap₂ (λ x y. frame c.kind₁ x ++ frame c.kind₂ y) (same_list first p.records₁ q.records₁ p.listed₁ q.listed₁)
      (same_list second p.records₂ q.records₂ p.listed₂ q.listed₂)
      ∙ sym q.written

  pub one_sheet : OneSheet c h
  one_sheet = record { some = sheet_some; only = sheet_only }

-- two lists of the same records, one for each of two sets
same_sets : (k : Kind) (P Q : Row → Type 0) (xs ys : List Row) → Listed k P xs → Listed k Q ys → xs ≡ ys → (r : Row) → P r ↔ Q r
same_sets k P Q xs ys l m e r = Iff.trans (Iff.symm (l.just r)) ((subst (Listed k Q) (sym e) m).just r)

module _ (a b : Kind) (la : Lawful a) (lb : Lawful b) where
  pub same_sheets : SameSheets a b
  same_sheets m n m' n' h h' bs bs' p q = (there, back)
    where
      same_both : bs ≡ bs' → both p.records₁ p.records₂ ≡ both q.records₁ q.records₂
      same_both e =
          got_same (read_sheet a b bs) _ _ (sheet_reads (over a b m n) (laws_over a b la lb m n) h bs p)
          (ap (read_sheet a b) e ∙ sheet_reads (over a b m' n') (laws_over a b la lb m' n') h' bs' q)

      there : bs ≡ bs' → SameLive (over a b m n) h (over a b m' n') h'
      there e first = same_sets a _ _ p.records₁ q.records₁ p.listed₁ q.listed₁ (ap (λ z. z.in₁) (same_both e))
      there e second = same_sets b _ _ p.records₂ q.records₂ p.listed₂ q.listed₂ (ap (λ z. z.in₂) (same_both e))

      back : SameLive (over a b m n) h (over a b m' n') h' → bs ≡ bs'
      back f =
          sheet_only (over a b m' n') (laws_over a b la lb m' n') h' bs bs'
          (record {
            records₁ = p.records₁;
            records₂ = p.records₂;
            listed₁ = listed_by a (Live (over a b m n) h first) (Live (over a b m' n') h' first) p.records₁ (f first) p.listed₁;
            listed₂ = listed_by b (Live (over a b m n) h second) (Live (over a b m' n') h' second) p.records₂ (f second) p.listed₂;
            written = p.written;
          })
          q
