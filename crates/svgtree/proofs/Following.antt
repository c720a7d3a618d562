-- Links that agree with the parents give the children, and levels are depths.
use Rattle.std.proofs.Common.{◌≡◌, ℕ, zero, suc, ◌+◌, ◌-◌, ◌<◌, ◌≤◌, eqb, ltb, List, [], ◌∷◌, length, is_some, Some, None, filter, Option, sym, refl, ap, ◌∙◌, subst, inl, inr, arith}
use mathlib.Core.Path.{fun_ext}
use Rattle.std.specs.List.{range_with_len, slice_get}
use Rattle.std.proofs.lemmas.Bool.{cases_eq, cases_lt, cond-true, cond-false, and_from, eq-eqb, ne_eqb, lt-ltb}
use Rattle.std.proofs.lemmas.List.{get_or_past}
use Rattle.svgtree.specs.declared.node.Node.{Node}
use Rattle.svgtree.specs.declared.document.Document.{Document}
use Rattle.svgtree.specs.Model.{Item, Model, item, count, children, later_siblings, climb, level}
use Rattle.svgtree.specs.Steps.{nonempty}
use Rattle.svgtree.specs.Memory.{nodes_of, model_of, no_node, node_at, link_within, last_link}
use Rattle.svgtree.specs.Links.{Next, Last, Ties, Linked, onward, head, chain, linked_children}
use Rattle.svgtree.proofs.Numbers.{none_kept, skip, first_kept, some_kept}
use Rattle.svgtree.proofs.Reading.{nth_none, found_there, model_count, model_item, node_used}

-- FOLLOWING

module _ (n : ℕ) (par lev : ℕ → ℕ) (first last next : ℕ → Option ℕ) (t : Ties n par lev first last next) where
  -- those after b whose parent is p
  abbrev after : ℕ → ℕ → List ℕ
  after p b = filter (λ j. eqb (par j) p) (range_with_len (b + 1) (n - (b + 1)))

  -- where no number after b has the parent p, none is kept
  no_later : (p b : ℕ) → Next n par p b None → after p b ≡ []
  no_later p b none = none_kept (λ j. eqb (par j) p) (n - (b + 1)) (b + 1) (λ j i o. ne_eqb (par j) p (none j (omega arith) (omega arith)))

  -- and where k is the first that has, it is kept first
  next_first : (p b k : ℕ) → Next n par p b (Some k) → after p b ≡ k ∷ after p k
  next_first p b k x =
      let bk : b < k = x.0 in
      let kn : k < n = x.1 in
      let e : n - (b + 1) - (k + 1 - (b + 1)) ≡ n - (k + 1) = omega arith in
      first_kept (λ j. eqb (par j) p) (n - (b + 1)) (b + 1) k (omega arith) (omega arith) (λ j i o. ne_eqb (par j) p (x.3 j (omega arith) o)) (eq-eqb (par k) p x.2)
      ∙ ap (λ (m : ℕ). k ∷ filter (λ j. eqb (par j) p) (range_with_len (k + 1) m)) e

  -- a chain from b on gives the children after b
  follow : (f p b : ℕ) (o : Option ℕ) → n ≤ f + b → b < n → Next n par p b o → chain f n next b o ≡ after p b
  unfolding chain
  follow zero p b o h l x = absurd (omega arith)
  follow (suc f) p b None h l x = sym (no_later p b x)
  follow (suc f) p b (Some k) h l x =
      let bk : b < k = x.0 in
      let kn : k < n = x.1 in
      let P : ℕ → Type 0 = λ q. Next n par q k (next k) in
      cond-true _ _ _ (and_from (ltb b k) (ltb k n) (lt-ltb b k bk) (lt-ltb k n kn))
      ∙ ap (λ (ks : List ℕ). k ∷ ks) (follow f p k (next k) (omega arith) kn (subst P x.2 (t.nexts k (omega arith) kn)))
      ∙ sym (next_first p b k x)

  -- the link from b leads to the first of them
  onward_after : (p b : ℕ) (o : Option ℕ) → Next n par p b o → onward n b o ≡ head (after p b)
  onward_after p b None x = sym (ap head (no_later p b x))
  onward_after p b (Some k) x =
      cond-true _ _ _ (and_from (ltb b k) (ltb k n) (lt-ltb b k x.0) (lt-ltb k n x.1))
      ∙ sym (ap head (next_first p b k x))

  -- no child comes before its parent
  all_after : (p : ℕ) → p < n → filter (λ j. eqb (par j) p) (range_with_len 1 (n - 1)) ≡ after p p
  all_after p h =
      let e : n - 1 ≡ p + (n - (p + 1)) = omega arith in
      let z : 1 + p ≡ p + 1 = omega arith in
      ap (λ (m : ℕ). filter (λ j. eqb (par j) p) (range_with_len 1 m)) e
      ∙ skip (λ j. eqb (par j) p) p (n - (p + 1)) 1 (λ j i o. ne_eqb (par j) p (λ q. omega (arith, t.before j (omega arith) (omega arith))))
      ∙ ap (λ (b : ℕ). filter (λ j. eqb (par j) p) (range_with_len b (n - (p + 1)))) z

  -- past all numbers there is no parent
  none_past : (p : ℕ) → n ≤ p → filter (λ j. eqb (par j) p) (range_with_len 1 (n - 1)) ≡ []
  none_past p h = none_kept (λ j. eqb (par j) p) (n - 1) 1 (λ j i o. ne_eqb (par j) p (λ q. omega (arith, t.before j (omega arith) (omega arith))))

  -- a last child, and only it, tells that there are children
  childless : (p : ℕ) (o : Option ℕ) → p < n → Last n par p o → nonempty (filter (λ j. eqb (par j) p) (range_with_len 1 (n - 1))) ≡ is_some o
  childless p None h x = ap nonempty (all_after p h ∙ no_later p p x)
  childless p (Some l) h x =
      let pl : p < l = x.0 in
      let ln : l < n = x.1 in
      some_kept (λ j. eqb (par j) p) (n - 1) 1 l (omega arith) (omega arith) (eq-eqb (par l) p x.2)

  -- the levels are those that the way up gives
  climbs : (m : Model) → ((j : ℕ) → (item m j).parent ≡ par j) → (f j : ℕ) → j ≤ f → j < n → lev j ≡ climb m f j
  unfolding climb
  climbs m same zero j h l = let e : j ≡ 0 = omega arith in ap lev e ∙ (t.root (omega arith)).0
  climbs m same (suc f) j h l =
      elim (cases_eq j 0) [
        | inl e ↦ ap lev e ∙ (t.root (omega arith)).0 ∙ sym (cond-true _ _ _ (eq-eqb j 0 e))
        | inr e ↦
            let before : par j < j = t.before j (omega arith) l in
            t.levels j (omega arith) l
            ∙ ap (λ (k : ℕ). k + 1) (climbs m same f (par j) (omega arith) (omega arith) ∙ ap (λ (k : ℕ). climb m f k) (sym (same j)))
            ∙ sym (cond-false _ _ _ (ne_eqb j 0 e))
      ]

-- a last child lies among the nodes in use, so that its link is read as it stands
pub last_read : (n : ℕ) (par : ℕ → ℕ) (p : ℕ) (o : Option ℕ) → Last n par p o → link_within n o ≡ o
last_read n par p None x = refl
last_read n par p (Some l) x = cond-true _ _ _ (lt-ltb l n x.1)

-- OF A DOCUMENT IN MEMORY

module _ (d : Document) (ns : List Node) where
  parents : (j : ℕ) → (item (model_of d ns) j).parent ≡ (node_at (nodes_of d ns) j).parent
  parents j = ap (λ (it : Item). it.parent) (model_item d ns j)

  -- the children in the document, by the parents in memory
  by_parents : (p : ℕ) → children (model_of d ns) p ≡ filter (λ k. eqb (node_at (nodes_of d ns) k).parent p) (range_with_len 1 (length (nodes_of d ns) - 1))
  by_parents p =
      ap (λ (f : ℕ → ℕ). filter (λ k. eqb (f k) p) (range_with_len 1 (count (model_of d ns) - 1))) (fun_ext parents)
      ∙ ap (λ (n : ℕ). filter (λ k. eqb (node_at (nodes_of d ns) k).parent p) (range_with_len 1 (n - 1))) (model_count d ns)

  pub level_there : (p : ℕ) → Linked (nodes_of d ns) → p < length (nodes_of d ns) → (node_at (nodes_of d ns) p).level ≡ level (model_of d ns) p
  unfolding Linked
  level_there p linked inside =
      climbs (length (nodes_of d ns)) _ _ _ _ _ linked (model_of d ns) parents p p (omega arith) inside

  pub children_there : (p : ℕ) → Linked (nodes_of d ns) → p < length (nodes_of d ns) → linked_children (nodes_of d ns) p ≡ children (model_of d ns) p
  unfolding Linked
  children_there p linked inside =
      follow (length (nodes_of d ns)) _ _ _ _ _ linked (length (nodes_of d ns)) p p (node_at (nodes_of d ns) p).first_child (omega arith) inside (linked.firsts p inside)
      ∙ sym (all_after (length (nodes_of d ns)) _ _ _ _ _ linked p inside)
      ∙ sym (by_parents p)

  pub child_there : (p : ℕ) → Linked (nodes_of d ns) → p < length (nodes_of d ns) → nonempty (children (model_of d ns) p) ≡ is_some (last_link d ns p)
  unfolding Linked
  child_there p linked inside =
      ap nonempty (by_parents p)
      ∙ childless (length (nodes_of d ns)) _ _ _ _ _ linked p (node_at (nodes_of d ns) p).last_child inside (linked.lasts p inside)
      ∙ ap is_some (sym (last_read (length (nodes_of d ns)) (λ k. (node_at (nodes_of d ns) k).parent) p (node_at (nodes_of d ns) p).last_child (linked.lasts p inside)))
      ∙ ap (λ (n : Node). is_some (link_within (length (nodes_of d ns)) n.last_child)) (node_used d ns p inside)

  -- THE LINKS AS THEY ARE FOLLOWED

  -- from past the nodes in use, none is
  past_none : (n : ℕ) (link : Node → Option ℕ) → link no_node ≡ None → length (nodes_of d ns) ≤ n → None ≡ onward (length (nodes_of d ns)) n (link (node_at (nodes_of d ns) n))
  past_none n link none past =
      sym (ap (λ (x : Node). onward (length (nodes_of d ns)) n (link x)) (get_or_past (nodes_of d ns) n no_node past)
      ∙ ap (λ (o : Option ℕ). onward (length (nodes_of d ns)) n o) none)

  pub first_there : (n : ℕ) → Linked (nodes_of d ns) → onward (length (nodes_of d ns)) n (node_at (nodes_of d ns) n).first_child ≡ head (children (model_of d ns) n)
  unfolding Linked
  first_there n linked =
      elim (cases_lt n (length (nodes_of d ns))) [
        | inl inside ↦
            onward_after (length (nodes_of d ns)) _ _ _ _ _ linked n n (node_at (nodes_of d ns) n).first_child (linked.firsts n inside)
            ∙ sym (ap head (by_parents n ∙ all_after (length (nodes_of d ns)) _ _ _ _ _ linked n inside))
        | inr past ↦
            sym (past_none n (λ x. x.first_child) refl past)
            ∙ sym (ap head (by_parents n ∙ none_past (length (nodes_of d ns)) _ _ _ _ _ linked n past))
      ]

  -- the later siblings in the document, by the parents in memory
  siblings_by_parents : (n : ℕ) → later_siblings (model_of d ns) n
      ≡ filter (λ k. eqb (node_at (nodes_of d ns) k).parent (node_at (nodes_of d ns) n).parent) (range_with_len (n + 1) (length (nodes_of d ns) - (n + 1)))
  siblings_by_parents n =
      ap (λ (f : ℕ → ℕ). filter (λ k. eqb (f k) (f n)) (range_with_len (n + 1) (count (model_of d ns) - (n + 1)))) (fun_ext parents)
      ∙ ap (λ (m : ℕ). filter (λ k. eqb (node_at (nodes_of d ns) k).parent (node_at (nodes_of d ns) n).parent) (range_with_len (n + 1) (m - (n + 1)))) (model_count d ns)

  pub next_there : (n : ℕ) → Linked (nodes_of d ns) → 0 < n → onward (length (nodes_of d ns)) n (node_at (nodes_of d ns) n).next_sibling ≡ head (later_siblings (model_of d ns) n)
  unfolding Linked
  next_there n linked other =
      elim (cases_lt n (length (nodes_of d ns))) [
        | inl inside ↦
            onward_after (length (nodes_of d ns)) _ _ _ _ _ linked (node_at (nodes_of d ns) n).parent n (node_at (nodes_of d ns) n).next_sibling (linked.nexts n other inside)
            ∙ sym (ap head (siblings_by_parents n))
        | inr past ↦
            let none : length (nodes_of d ns) - (n + 1) ≡ 0 = omega arith in
            sym (past_none n (λ x. x.next_sibling) refl past)
            ∙ sym (ap head (siblings_by_parents n
            ∙ ap (λ (m : ℕ). filter (λ k. eqb (node_at (nodes_of d ns) k).parent (node_at (nodes_of d ns) n).parent) (range_with_len (n + 1) m)) none))
      ]

  -- what a read of the node gives, and its link
  module _ (n : ℕ) (link : Node → Option ℕ) where
    pub not_read : link no_node ≡ None → slice_get (nodes_of d ns) n ≡ None → None ≡ onward (length (nodes_of d ns)) n (link (node_at (nodes_of d ns) n))
    not_read none missing = past_none n link none (nth_none (nodes_of d ns) n missing)

    pub was_read : (found : Node) (m : ℕ) (o : Option ℕ) → slice_get (nodes_of d ns) n ≡ Some found → m ≡ length (nodes_of d ns) → o ≡ onward m n (link found) →
        o ≡ onward (length (nodes_of d ns)) n (link (node_at (nodes_of d ns) n))
    was_read found m o there counted gave =
        gave ∙ ap (λ (l : ℕ). onward l n (link found)) counted
        ∙ ap (λ (x : Node). onward (length (nodes_of d ns)) n (link x)) (sym (found_there d ns n found there))
