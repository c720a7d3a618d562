-- Edits of an attribute.
use Rattle.std.proofs.Common.{◌≡◌, ℕ, ◌<◌, ◌≤◌, Bool, true, false, not, ◌&&◌, eqb, ltb, List, [], ◌∷◌, map, length, get_or, set, Some, None, Ok, Err, Option, Result, sym, refl, ap, ◌∙◌, subst, arith}
use mathlib.Core.Path.{fun_ext}
use Rattle.std.specs.List.{slice_get}
use Rattle.std.proofs.lemmas.List.{map-set, length-set}
use Rattle.std.proofs.Math.ListN.{get_or-map}
use Rattle.std.proofs.Math.Seq.{take-set-lt, map-set_same}
use Rattle.std.proofs.lemmas.Bool.{not-false, ltb-true}
use Rattle.refusal.specs.Order.{first_of, unless}
use Rattle.refusal.specs.declared.Refusal.{Refusal}
use Rattle.refusal.specs.declared.Refusal.TheVariants.{UnknownNode, AttributeNotAllowed, BadValue}
use Rattle.element.specs.declared.value.Attribute.{Attribute}
use Rattle.element.specs.declared.value.Kind.{Kind}
use Rattle.element.specs.declared.value.Value.{Value}
use Rattle.list.specs.Bounded.{used, Replaced}
use Rattle.svgtree.specs.declared.node.Node.{Node}
use Rattle.svgtree.specs.declared.document.Document.{Document}
use Rattle.element.specs.Attributes.{with_value}
use Rattle.svgtree.specs.Model.{Item, Model, count, item, with_attribute}
use Rattle.svgtree.specs.Steps.{outcome}
use Rattle.svgtree.specs.Memory.{item_of, nodes_of, model_of, no_node, node_at, value_changed, attribute_changed}
use Rattle.svgtree.specs.Allowed.{row, takes_attribute}
use Rattle.svgtree.specs.Links.{Ties, Linked}
use Rattle.svgtree.specs.Edits.{Edited}
use Rattle.svgtree.proofs.Reading.{model_count, nodes_count, passes, was_refused, not_refused, found_inside, found_there, model_item, node_used, was_added}

-- a write leaves alone what it does not change of the node that stood there
pub untouched : {Y : Type 0} (f : Node → Y) (ns : List Node) (i : ℕ) (n : Node) (k : ℕ) → f n ≡ f (node_at ns i) → f (node_at (set ns i n) k) ≡ f (node_at ns k)
untouched {Y} f ns i n k e =
    sym (get_or-map f (set ns i n) k no_node) ∙ ap (λ (ys : List Y). get_or ys k (f no_node)) (map-set_same f ns i n no_node e) ∙ get_or-map f ns k no_node

-- a node apart from its element
abbrev Place : Type 0
Place = ℕ × ℕ × Option ℕ × Option ℕ × Option ℕ

place : Node → Place
place n = (n.parent, n.level, n.first_child, n.last_child, n.next_sibling)

-- links and levels are not touched by a write of an element
linked_still : (ns : List Node) (i : ℕ) (a : Attribute) (value : Option Value) → Linked ns → Linked (set ns i (value_changed (node_at ns i) a value))
unfolding Linked place
linked_still ns i a value linked =
    subst Counted (sym (length-set ns i n)) (subst Placed (fun_ext (λ k. sym (untouched place ns i n k refl))) linked)
  where
    n : Node
    n = value_changed (node_at ns i) a value

    Counted : ℕ → Type 0
    Counted l =
        Ties l
        (λ k. (node_at (set ns i n) k).parent)
        (λ k. (node_at (set ns i n) k).level)
        (λ k. (node_at (set ns i n) k).first_child)
        (λ k. (node_at (set ns i n) k).last_child)
        (λ k. (node_at (set ns i n) k).next_sibling)

    Placed : (ℕ → Place) → Type 0
    Placed at = Ties (length ns) (λ k. (at k).0) (λ k. (at k).1) (λ k. (at k).2) (λ k. (at k).3) (λ k. (at k).4)

-- the item with this value of an attribute, or none
abbrev changed_item : Attribute → Option Value → Item → Item
changed_item a value it = record { element = with_value it.element a value; parent = it.parent }

-- a replacement of a node in use writes it
replaced_memory : (ns : List Node) (c n : ℕ) (x : Node) (r : Bool) (ns' : List Node) → n < length (used ns c) → Replaced ns c n x r ns' → ns' ≡ set ns n x
replaced_memory ns c n x true ns' inside done = done.memory
replaced_memory ns c n x false ns' inside none = let past : length (used ns c) ≤ n = none.past in absurd (omega arith)

module _ (d : Document) (ns : List Node) (n : ℕ) (a : Attribute) (value : Option Value) where
  changed_model : n < length (nodes_of d ns) → model_of d (attribute_changed ns n a value) ≡ with_attribute (model_of d ns) n a value
  changed_model inside =
      ap (λ (items : List Item). record { options = d.options; items = items })
      (ap (λ (xs : List Node). map item_of xs) (take-set-lt d.count ns n (value_changed (node_at ns n) a value) (omega (arith, nodes_count d ns)))
      ∙ map-set item_of (nodes_of d ns) n (value_changed (node_at ns n) a value)
      ∙ ap (λ (it : Item). set (map item_of (nodes_of d ns)) n (changed_item a value it))
      (ap item_of (sym (node_used d ns n inside)) ∙ sym (model_item d ns n)))

  linked_changed : n < length (nodes_of d ns) → Linked (nodes_of d ns) → Linked (nodes_of d (attribute_changed ns n a value))
  linked_changed inside linked =
      subst Linked
      (ap (λ (x : Node). set (nodes_of d ns) n (value_changed x a value)) (node_used d ns n inside)
      ∙ sym (take-set-lt d.count ns n (value_changed (node_at ns n) a value) (omega (arith, nodes_count d ns))))
      (linked_still (nodes_of d ns) n a value linked)

-- AN EDIT whose checks of a node that was added are these
module _ (d : Document) (ns : List Node) (n : ℕ) (later : List (Bool × Refusal)) where
  abbrev pub edit_refusal : Option Refusal
  edit_refusal = first_of ((not (ltb n (count (model_of d ns))), UnknownNode) ∷ later)

  -- where it is accepted, the node was added
  pub edit_inside : edit_refusal ≡ None → n < length (nodes_of d ns)
  edit_inside accepted =
      omega (arith, ltb-true n (count (model_of d ns)) (not-false (ltb n (count (model_of d ns))) (passes ((not (ltb n (count (model_of d ns))), UnknownNode) ∷ later) accepted).0), model_count d ns)

  module _ (a : Attribute) (value : Option Value) where
    abbrev pub EditedBy : Result (Unit {0}) Refusal → List Node → Type 0
    EditedBy r ns' = Edited d ns n a value (outcome edit_refusal tt (model_of d ns) (with_attribute (model_of d ns) n a value)) r ns'

    edit_refused : (e : Refusal) → edit_refusal ≡ Some e → EditedBy (Err e) ns
    edit_refused e is = rw is (record { step = refl; memory = refl; links = λ linked. linked })

    -- a node was read, and the code answered these checks of it
    module _ (found : Node) (read : slice_get (nodes_of d ns) n ≡ Some found) (tests : List (Bool × Refusal)) (same : first_of tests ≡ first_of later) (r : Result (Unit {0}) Refusal) (answer : r ≡ unless (first_of tests) tt) where
      known : edit_refusal ≡ first_of tests
      known = was_added d ns n later (found_inside d ns n found read) ∙ sym same

      edit_fails : (e : Refusal) → r ≡ Err e → EditedBy (Err e) ns
      edit_fails e fails = edit_refused e (known ∙ was_refused (first_of tests) tt e (sym answer ∙ fails))

      edit_done : r ≡ Ok tt → (b : Bool) (ns' : List Node) → Replaced ns d.count n (value_changed found a value) b ns' → EditedBy (Ok tt) ns'
      edit_done passed b ns' done =
          let inside : n < length (nodes_of d ns) = found_inside d ns n found read in
          let there : found ≡ node_at ns n = sym (found_there d ns n found read) ∙ node_used d ns n inside in
          let memory : ns' ≡ attribute_changed ns n a value = replaced_memory ns d.count n (value_changed found a value) b ns' inside done ∙ ap (λ (x : Node). set ns n (value_changed x a value)) there in
          let accepted : edit_refusal ≡ None = known ∙ not_refused (first_of tests) tt tt (sym answer ∙ passed) in
          rw (accepted, memory)
          (record {
            step = ap (λ (m : Model). record { answer = Ok tt; document = m }) (changed_model d ns n a value inside);
            memory = refl;
            links = linked_changed d ns n a value inside;
          })

-- WHAT IS CHECKED of a node that was added
module _ (n : ℕ) (a : Attribute) (kind : Kind) where
  abbrev unset_tests : List (Bool × Refusal)
  unset_tests = (not (takes_attribute (eqb n 0) kind a), AttributeNotAllowed) ∷ []

  abbrev set_tests : Value → List (Bool × Refusal)
  set_tests value = (not (takes_attribute (eqb n 0) kind a && (row a).form value), AttributeNotAllowed) ∷ (not ((row a).range value), BadValue) ∷ []

  -- the code checks one by one what the rules check together
  abbrev single_tests : Value → List (Bool × Refusal)
  single_tests value = (not (takes_attribute (eqb n 0) kind a), AttributeNotAllowed) ∷ (not ((row a).form value), AttributeNotAllowed) ∷ (not ((row a).range value), BadValue) ∷ []

  one_by_one : (value : Value) → first_of (single_tests value) ≡ first_of (set_tests value)
  one_by_one value = by_taken (takes_attribute (eqb n 0) kind a)
    where
      by_taken : (taken : Bool) →
          first_of ((not taken, AttributeNotAllowed) ∷ (not ((row a).form value), AttributeNotAllowed) ∷ (not ((row a).range value), BadValue) ∷ [])
          ≡ first_of ((not (taken && (row a).form value), AttributeNotAllowed) ∷ (not ((row a).range value), BadValue) ∷ [])
      by_taken true = refl
      by_taken false = refl

module _ (d : Document) (ns : List Node) (n : ℕ) (a : Attribute) where
  abbrev pub set_later : Value → List (Bool × Refusal)
  set_later value = set_tests n a (item (model_of d ns) n).element.kind value

  abbrev pub unset_later : List (Bool × Refusal)
  unset_later = unset_tests n a (item (model_of d ns) n).element.kind

  -- a node was read: its kind is that of the document
  module _ (found : Node) (read : slice_get (nodes_of d ns) n ≡ Some found) where
    kind_there : found.element.kind ≡ (item (model_of d ns) n).element.kind
    kind_there = ap (λ (it : Item). it.element.kind) (sym (model_item d ns n ∙ ap item_of (found_there d ns n found read)))

    unset_same : first_of (unset_tests n a found.element.kind) ≡ first_of unset_later
    unset_same = ap (λ (kind : Kind). first_of (unset_tests n a kind)) kind_there

    pub unset_fails : takes_attribute (eqb n 0) found.element.kind a ≡ false → EditedBy d ns n unset_later a None (Err AttributeNotAllowed) ns
    unset_fails left =
        edit_fails d ns n unset_later a None found read (unset_tests n a found.element.kind) unset_same (Err AttributeNotAllowed) (rw left refl) AttributeNotAllowed refl

    pub unset_done : takes_attribute (eqb n 0) found.element.kind a ≡ true → (b : Bool) (ns' : List Node) → Replaced ns d.count n (value_changed found a None) b ns' → EditedBy d ns n unset_later a None (Ok tt) ns'
    unset_done taken b ns' done =
        edit_done d ns n unset_later a None found read (unset_tests n a found.element.kind) unset_same (Ok tt) (rw taken refl) refl b ns' done

    module _ (value : Value) (r : Result (Unit {0}) Refusal) (answer : r ≡ unless (first_of (single_tests n a found.element.kind value)) tt) where
      told : first_of (single_tests n a found.element.kind value) ≡ first_of (set_later value)
      told = one_by_one n a found.element.kind value ∙ ap (λ (kind : Kind). first_of (set_tests n a kind value)) kind_there

      pub set_fails : (e : Refusal) → r ≡ Err e → EditedBy d ns n (set_later value) a (Some value) (Err e) ns
      set_fails e fails = edit_fails d ns n (set_later value) a (Some value) found read (single_tests n a found.element.kind value) told r answer e fails

      pub set_done : r ≡ Ok tt → (b : Bool) (ns' : List Node) → Replaced ns d.count n (value_changed found a (Some value)) b ns' → EditedBy d ns n (set_later value) a (Some value) (Ok tt) ns'
      set_done passed b ns' done = edit_done d ns n (set_later value) a (Some value) found read (single_tests n a found.element.kind value) told r answer passed b ns' done
