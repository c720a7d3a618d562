-- What each call answers and what document it leaves, for the document before it and its arguments.
use Rattle.std.specs.Prelude.{ℕ, min, Bool, true, false, not, ◌&&◌, List, [], ◌∷◌, Some, None, Option, Result, ◌==◌, nat_le, nat_lt}
use Rattle.std.specs.Float.Ieee.{lt, le}
use Rattle.geom.specs.F32.{whole}
use Rattle.refusal.specs.Order.{first_of, unless}
use Rattle.refusal.specs.declared.Refusal.{Refusal}
use Rattle.refusal.specs.declared.Refusal.TheVariants.{UnknownNode, ChildNotAllowed, AttributeNotAllowed, BadValue, DocumentFull, TooDeep}
use Rattle.element.specs.declared.value.Attribute.{Attribute}
use Rattle.element.specs.declared.value.Kind.{Kind}
use Rattle.element.specs.declared.value.Value.{Value}
use Rattle.geom.specs.declared.options.Options.{Options}
use Rattle.svgtree.specs.Limits.{max_nodes, max_levels, min_dpi, max_dpi, max_font_size}
use Rattle.svgtree.specs.Allowed.{row, takes_attribute, takes_child}
use Rattle.svgtree.specs.Model.{Model, count, item, children, level, beginning, with_child, with_attribute}

-- THE CHECKS of each call, in their order

-- a dpi from 10 to 4,000, and a font size above 0 and at most 1,000
abbrev pub good_options : Options → Bool
good_options o = le min_dpi o.dpi && le o.dpi max_dpi && lt (whole 0) o.font_size && le o.font_size max_font_size

-- where so many nodes are lent
abbrev pub new_checks : ℕ → Options → List (Bool × Refusal)
new_checks lent options = ((lent == 0), DocumentFull) ∷ (not (good_options options), BadValue) ∷ []

-- where so many nodes are lent and so many there are; of the parent, whether it was added, its kind, whether it has a child, and its level
abbrev pub add_checks : ℕ → ℕ → Bool → Kind → Bool → ℕ → List (Bool × Refusal)
add_checks lent count added kind has_child level =
    (not added, UnknownNode)
    ∷ (not (takes_child kind has_child), ChildNotAllowed)
    ∷ (nat_le (min lent max_nodes) count, DocumentFull)
    ∷ (nat_le max_levels level, TooDeep)
    ∷ []

-- of the node, whether it was added, whether it is the root, and its kind
abbrev pub set_checks : Bool → Bool → Kind → Attribute → Value → List (Bool × Refusal)
set_checks added root kind a value =
    (not added, UnknownNode)
    ∷ (not (takes_attribute root kind a && (row a).form value), AttributeNotAllowed)
    ∷ (not ((row a).range value), BadValue)
    ∷ []

abbrev pub unset_checks : Bool → Bool → Kind → Attribute → List (Bool × Refusal)
unset_checks added root kind a = (not added, UnknownNode) ∷ (not (takes_attribute root kind a), AttributeNotAllowed) ∷ []

-- THE STEPS

-- a call that is refused changes nothing
abbrev pub changed : {X : Type 0} → Option Refusal → X → X → X
changed (Some refusal) before after = before
changed None before after = after

-- the document that new makes
abbrev pub new_step : ℕ → Options → Result Model Refusal
new_step lent options = unless (first_of (new_checks lent options)) (beginning options)

abbrev pub nonempty : {X : Type 0} → List X → Bool
nonempty [] = false
nonempty (x ∷ xs) = true

-- what an edit answers, and the document that it leaves
pub record Outcome (X : Type 0) : Type 0 where
  pub answer : Result X Refusal
  pub document : Model

abbrev pub outcome : {X : Type 0} → Option Refusal → X → Model → Model → Outcome X
outcome refusal x before after = record { answer = unless refusal x; document = changed refusal before after }

-- where so many nodes are lent: a node without attributes, of the next number
abbrev pub add_step : ℕ → Model → ℕ → Kind → Outcome ℕ
add_step lent m parent kind =
    outcome
    (first_of (add_checks lent (count m) (nat_lt parent (count m)) (item m parent).element.kind (nonempty (children m parent)) (level m parent)))
    (count m)
    m
    (with_child m parent kind)

-- the value for any earlier one
abbrev pub set_step : Model → ℕ → Attribute → Value → Outcome (Unit {0})
set_step m n a value =
    outcome
    (first_of (set_checks (nat_lt n (count m)) (n == 0) (item m n).element.kind a value))
    tt
    m
    (with_attribute m n a (Some value))

-- no value, also where there was none
abbrev pub unset_step : Model → ℕ → Attribute → Outcome (Unit {0})
unset_step m n a =
    outcome
    (first_of (unset_checks (nat_lt n (count m)) (n == 0) (item m n).element.kind a))
    tt
    m
    (with_attribute m n a None)
