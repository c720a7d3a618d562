-- A document in memory: the nodes that are lent to it, and what they stand for.
use Rattle.std.specs.Prelude.{ℕ, ◌+◌, cond, List, [], map, length, is_some, Some, None, Option, nat_lt, slice_index_or, slice_set}
use Rattle.refusal.specs.Order.{first_of}
use Rattle.refusal.specs.declared.Refusal.{Refusal}
use Rattle.element.specs.declared.value.Attribute.{Attribute}
use Rattle.element.specs.declared.value.Kind.{Kind}
use Rattle.element.specs.declared.value.Kind.TheVariants.{Svg}
use Rattle.element.specs.declared.value.Value.{Value}
use Rattle.list.specs.Bounded.{used}
use Rattle.svgtree.specs.declared.node.Node.{Node}
use Rattle.svgtree.specs.declared.document.Document.{Document}
use Rattle.element.specs.Attributes.{bare, with_value}
use Rattle.svgtree.specs.Model.{Item, Model}
use Rattle.svgtree.specs.Steps.{add_checks}

-- what a node says, apart from its level and its links
abbrev pub item_of : Node → Item
item_of n = record { element = n.element; parent = n.parent }

-- the nodes in use: the count is read as at most the number lent
abbrev pub nodes_of : Document → List Node → List Node
nodes_of d ns = used ns d.count

-- the document that the memory holds
abbrev pub model_of : Document → List Node → Model
model_of d ns = record { options = d.options; items = map item_of (nodes_of d ns) }

-- what stands for a node that there is not
abbrev pub no_node : Node
no_node =
    record {
      element = record { kind = Svg; attributes = [] };
      parent = 0;
      level = 0;
      first_child = None;
      last_child = None;
      next_sibling = None;
    }

abbrev pub node_at : List Node → ℕ → Node
node_at ns n = slice_index_or ns n no_node

-- a node without attributes, children or a next sibling
abbrev pub fresh : Kind → ℕ → ℕ → Node
fresh kind parent level =
    record {
      element = bare kind;
      parent = parent;
      level = level;
      first_child = None;
      last_child = None;
      next_sibling = None;
    }

-- a node with this value of an attribute, or none
abbrev pub value_changed : Node → Attribute → Option Value → Node
value_changed n a value =
    record {
      element = with_value n.element a value;
      parent = n.parent;
      level = n.level;
      first_child = n.first_child;
      last_child = n.last_child;
      next_sibling = n.next_sibling;
    }

-- the memory with one node's attribute changed, and nothing else
abbrev pub attribute_changed : List Node → ℕ → Attribute → Option Value → List Node
attribute_changed ns n a value = slice_set ns n (value_changed (node_at ns n) a value)

-- LINKS

-- a link as it is read: none where it leads out of so many nodes in use
abbrev pub link_within : ℕ → Option ℕ → Option ℕ
link_within n None = None
link_within n (Some k) = cond (nat_lt k n) (Some k) None

abbrev pub with_first_child : Node → ℕ → Node
with_first_child n k =
    record {
      element = n.element;
      parent = n.parent;
      level = n.level;
      first_child = Some k;
      last_child = n.last_child;
      next_sibling = n.next_sibling;
    }

abbrev pub with_last_child : Node → ℕ → Node
with_last_child n k =
    record {
      element = n.element;
      parent = n.parent;
      level = n.level;
      first_child = n.first_child;
      last_child = Some k;
      next_sibling = n.next_sibling;
    }

abbrev pub with_next_sibling : Node → ℕ → Node
with_next_sibling n k =
    record {
      element = n.element;
      parent = n.parent;
      level = n.level;
      first_child = n.first_child;
      last_child = n.last_child;
      next_sibling = Some k;
    }

-- the memory in which `new` comes after p's last child, or is its first where p has none
abbrev pub behind_last : List Node → ℕ → Option ℕ → ℕ → List Node
behind_last ns p None new = slice_set ns p (with_first_child (node_at ns p) new)
behind_last ns p (Some last) new = slice_set ns last (with_next_sibling (node_at ns last) new)

-- and in which it is p's last child
abbrev pub tied : List Node → ℕ → Option ℕ → ℕ → List Node
tied ns p last new =
    slice_set (behind_last ns p last new) p (with_last_child (node_at (behind_last ns p last new) p) new)

module _ (d : Document) (ns : List Node) (p : ℕ) where
  abbrev pub last_link : Option ℕ
  last_link = link_within (length (nodes_of d ns)) (node_at ns p).last_child

  -- why no node is placed under p, by the level and the last child that the memory has for p
  abbrev pub place_refusal : Option Refusal
  place_refusal =
      first_of
      (add_checks (length ns) (length (nodes_of d ns)) (nat_lt p (length (nodes_of d ns))) (node_at ns p).element.kind (is_some last_link) (node_at ns p).level)

  -- the memory with a node more: it stands in the first free place and is tied to its parent, and nothing else is changed
  abbrev pub placed : Kind → List Node
  placed kind =
      tied (slice_set ns (length (nodes_of d ns)) (fresh kind p ((node_at ns p).level + 1))) p last_link (length (nodes_of d ns))
