-- What holds of a document after any list of calls.
use Rattle.std.specs.Prelude.{◌≡◌, ℕ, ◌<◌, ◌≤◌, true, false, List, length, Some, Ok, ◌==◌}
use Rattle.element.specs.declared.value.Attribute.{Attribute}
use Rattle.element.specs.declared.value.Kind.{Kind}
use Rattle.element.specs.declared.value.Kind.TheVariants.{Svg}
use Rattle.element.specs.declared.value.Role.TheVariants.{Use}
use Rattle.element.specs.declared.value.Value.{Value}
use Rattle.element.specs.Attributes.{value_of}
use Rattle.element.specs.Roles.{role_of}
use Rattle.svgtree.specs.declared.calls.Call.{Call}
use Rattle.geom.specs.declared.options.Options.{Options}
use Rattle.svgtree.specs.Limits.{max_nodes, max_levels}
use Rattle.svgtree.specs.Allowed.{row, takes_attribute, takes_child}
use Rattle.svgtree.specs.Model.{Model, count, item, children, level}
use Rattle.svgtree.specs.Steps.{good_options}
use Rattle.svgtree.specs.Calls.{after}

-- a value that the root, or another element of this kind, takes: of the attribute's form and in its range
pub record FitFor (at : ℕ) (kind : Kind) (a : Attribute) (value : Value) : Type 0 where
  pub taken : takes_attribute (at == 0) kind a ≡ true
  pub form : (row a).form value ≡ true
  pub range : (row a).range value ≡ true

pub record Sound (m : Model) : Type 0 where
  pub options : good_options m.options ≡ true
  -- there is a root, an svg
  pub some : 0 < count m
  pub root : (item m 0).element.kind ≡ Svg
  pub few : count m ≤ max_nodes
  -- each other node's parent comes before it and takes children
  pub before : (n : ℕ) → 0 < n → n < count m → (item m n).parent < n
  pub under : (n : ℕ) → 0 < n → n < count m → takes_child (item m (item m n).parent).element.kind false ≡ true
  pub shallow : (n : ℕ) → n < count m → level m n ≤ max_levels
  -- a use has at most one child
  pub single : (n : ℕ) → n < count m → role_of (item m n).element.kind ≡ Use → length (children m n) ≤ 1
  -- what is set may be set
  pub values : (n : ℕ) → n < count m → (a : Attribute) (value : Value) → value_of (item m n).element a ≡ Some value → FitFor n (item m n).element.kind a value

-- LAW: the document after any calls is sound
abbrev pub CallsLeaveSound : Type 0
CallsLeaveSound = (options : Options) (lent : ℕ) (calls : List Call) (m : Model) → after options lent calls ≡ Ok m → Sound m
