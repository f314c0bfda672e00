-- What the code's sections, commands, answers and refusals mean.
use Rattle.std.specs.Prelude.{◌≡◌, ℕ, cond, List, map, ℤ, Ok, Err, Result}
use Rattle.records.specs.Kind.{Kind}
use Rattle.records.specs.Line.{Section, first, second}
use Rattle.records.specs.Meaning.{refused_of as line_refused}
use Rattle.records.specs.Outcome.{Refused, plain, Outcome, refused}
use Rattle.model.specs.Answers.{Done, done}
use Rattle.recipes.specs.Calls.{Sections}
use Rattle.recipes.specs.Slots.{State, place_of, is_among}
use Rattle.recipes.specs.declared.recipe.Recipe.{Recipe}
use Rattle.recipes.specs.declared.refusal.Counted.{Counted}
use Rattle.recipes.specs.declared.refusal.RecipeRefusal.{RecipeRefusal}
use Rattle.recipes.specs.declared.refusal.RecipeRefusal.TheVariants.{Line, Full, NotLive}
use Rattle.recipes.specs.declared.refusal.Which.{Which}
use Rattle.recipes.specs.declared.refusal.Which.TheVariants.{First, Second}

-- rows, of which the first n are live, by their numbers
abbrev pub seen : {X : Type 0} → (X → List ℤ) → List X → ℕ → State
seen numbers rows n = record { slots = map numbers rows; count = n }

-- r's place: Ok where r stands there, and Err where it would belong there
abbrev pub looked_up : Kind → List ℤ → List (List ℤ) → Result ℕ ℕ
looked_up k r xs = cond (is_among k r xs) (Ok (place_of k r xs)) (Err (place_of k r xs))

-- a recipe's two sections, by the numbers of their rows
abbrev pub both : {X Y : Type 0} → (X → List ℤ) → (Y → List ℤ) → Recipe X Y → Sections
both f g r = record { one = seen f r.first.now r.first_count; two = seen g r.second.now r.second_count }

-- the two are over the same slots of the caller
abbrev pub SameSlots : {X Y : Type 0} → Recipe X Y → Recipe X Y → Type 0
SameSlots r s = (r.first.ghost_name ≡ s.first.ghost_name) × (r.second.ghost_name ≡ s.second.ghost_name)

abbrev pub section_of : Which → Section
section_of First = first
section_of Second = second

-- a refusal's number, place and fault, case by case
abbrev pub refused_of : RecipeRefusal → Refused
refused_of (Line e) = line_refused e
refused_of Full = plain 31 0
refused_of NotLive = plain 32 0

-- what a call's result comes to
abbrev pub told : Result Counted RecipeRefusal → Outcome Done
told (Ok d) = done (section_of d.section) d.count
told (Err e) = refused (refused_of e)
