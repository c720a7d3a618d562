-- A text that is none of a table's names.
use Rattle.std.proofs.Common.{◌≡◌, ℕ, false, List, [], ◌∷◌, None, refl, ◌∙◌}
use Rattle.std.specs.Str.{bytes_eq}
use Rattle.std.proofs.lemmas.Slice.Eq.{bytes_eq-Decides}
use Rattle.std.proofs.lemmas.Bool.{false_from_ne_true, cond-false}
use Rattle.notation.specs.Names.{named}

pub other_text : (xs ys : List ℕ) → (xs ≡ ys → ⊥) → bytes_eq xs ys ≡ false
other_text xs ys h = false_from_ne_true (bytes_eq xs ys) (λ t. h ((bytes_eq-Decides xs ys).0 t))

-- the text is none of the names
abbrev pub Unlike : {A : Type 0} → List (List ℕ × A) → List ℕ → Type 0
Unlike [] text = Unit {0}
Unlike (row ∷ rows) text = (text ≡ row.0 → ⊥) × Unlike rows text

pub not_named : {A : Type 0} (rows : List (List ℕ × A)) (text : List ℕ) → Unlike rows text → named rows text ≡ None
not_named [] text u = refl
not_named (row ∷ rows) text u = cond-false _ _ _ (other_text text row.0 u.0) ∙ not_named rows text u.1
