-- A document: its options, and the element and the parent of each node, by number.
use Rattle.std.specs.Prelude.{ℕ, zero, suc, ◌+◌, ◌-◌, cond, List, [], ◌∷◌, ◌++◌, length, filter, Option, ◌==◌, nat_eq, slice_index_or, slice_set}
use Rattle.std.specs.List.{range_with_len, flat_map}
use Rattle.element.specs.declared.element.Element.{Element}
use Rattle.element.specs.declared.value.Attribute.{Attribute}
use Rattle.element.specs.declared.value.Kind.{Kind}
use Rattle.element.specs.declared.value.Kind.TheVariants.{Svg}
use Rattle.element.specs.declared.value.Value.{Value}
use Rattle.element.specs.Attributes.{bare, with_value}
use Rattle.geom.specs.declared.options.Options.{Options}
use Rattle.svgtree.specs.Limits.{max_levels}

pub record Item : Type 0 where
  pub element : Element
  -- the parent's number; of no meaning for the root, node 0
  pub parent : ℕ

pub record Model : Type 0 where
  pub options : Options
  pub items : List Item

-- what stands for a node that there is not
abbrev pub no_item : Item
no_item = record { element = record { kind = Svg; attributes = [] }; parent = 0 }

module _ (m : Model) where
  abbrev pub count : ℕ
  count = length m.items

  abbrev pub item : ℕ → Item
  item n = slice_index_or m.items n no_item

  -- the children of a node: the nodes whose parent it is, by number
  abbrev pub children : ℕ → List ℕ
  children n = filter (λ k. nat_eq (item k).parent n) (range_with_len 1 (count - 1))

  -- the later children of a node's parent, by number
  abbrev pub later_siblings : ℕ → List ℕ
  later_siblings n = filter (λ k. nat_eq (item k).parent (item n).parent) (range_with_len (n + 1) (count - (n + 1)))

  -- the level found in at most f steps up
  unfoldable pub climb : ℕ → ℕ → ℕ
  climb zero n = 1
  climb (suc f) n = cond (n == 0) 1 (climb f (item n).parent + 1)

  -- the level of a node: the root's is 1, any other's one more than its parent's; as numbers fall on the way up, n steps suffice
  abbrev pub level : ℕ → ℕ
  level n = climb n n

  -- the order of a node and what is below it, l levels deep: each node before its children, these by number
  unfoldable pub order : ℕ → ℕ → List ℕ
  order zero n = []
  order (suc l) n = n ∷ flat_map (λ k. order l k) (children n)

  -- document order
  abbrev pub document_order : List ℕ
  document_order = order max_levels 0

-- the document of one node: the root svg, without attributes
abbrev pub beginning : Options → Model
beginning options = record { options = options; items = record { element = bare Svg; parent = 0 } ∷ [] }

-- one node more, of a kind, under its parent, without attributes
abbrev pub with_child : Model → ℕ → Kind → Model
with_child m parent kind =
    record { options = m.options; items = m.items ++ record { element = bare kind; parent = parent } ∷ [] }

-- one node's attribute with this value, or none
abbrev pub with_attribute : Model → ℕ → Attribute → Option Value → Model
with_attribute m n a value =
    record {
      options = m.options;
      items = slice_set m.items n (record { element = with_value (item m n).element a value; parent = (item m n).parent });
    }
