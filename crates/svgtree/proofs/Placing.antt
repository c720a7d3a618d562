-- A node more, placed in memory and tied in.
use Rattle.std.proofs.Common.{◌≡◌, ℕ, ◌+◌, ◌<◌, min, Bool, not, ltb, leb, ◌≢◌, List, [], ◌∷◌, ◌++◌, map, length, get_or, take, set, is_some, Some, None, Ok, Err, Option, Result, sym, refl, ap, ◌∙◌, subst, inl, inr, arith}
use Rattle.std.specs.List.{slice_get}
use Rattle.std.proofs.lemmas.Bool.{cond-true, cond-false, cases_lt, lt-ltb, le-ltb, ltb-true, leb-false, not-false}
use Rattle.std.proofs.lemmas.List.{length-set, length-take-le, get_or-take, get_or-set_same, get_or-set_other, take-map, map_push, take_min, take_more_set}
use Rattle.std.proofs.Math.ListN.{get_or-map}
use Rattle.std.proofs.Math.Seq.{map-set_same}
use Rattle.std.proofs.lemmas.Option.{none-some, cond_some}
use Rattle.refusal.specs.Order.{first_of, unless}
use Rattle.refusal.specs.declared.Refusal.{Refusal}
use Rattle.refusal.specs.declared.Refusal.TheVariants.{ChildNotAllowed, DocumentFull, TooDeep}
use Rattle.element.specs.declared.value.Kind.{Kind}
use Rattle.list.specs.Bounded.{Appended}
use Rattle.svgtree.specs.declared.node.Node.{Node}
use Rattle.svgtree.specs.declared.document.Document.{Document}
use Rattle.svgtree.specs.Limits.{max_nodes, max_levels}
use Rattle.svgtree.specs.Allowed.{takes_child}
use Rattle.svgtree.specs.Model.{Item, Model, count, item, children, level, with_child}
use Rattle.svgtree.specs.Steps.{outcome, nonempty, add_checks}
use Rattle.svgtree.specs.Memory.{item_of, nodes_of, model_of, no_node, node_at, fresh, link_within, with_first_child, with_last_child, with_next_sibling, behind_last, tied, last_link, place_refusal, placed}
use Rattle.svgtree.specs.Links.{Last, Ties, Linked}
use Rattle.svgtree.specs.Edits.{Added}
use Rattle.svgtree.proofs.Reading.{passes, was_refused, not_refused, found_inside, found_there, model_count, model_item, nodes_count, node_used}
use Rattle.svgtree.proofs.Editing.{untouched}
use Rattle.svgtree.proofs.Tying.{first_behind, ties_more}
use Rattle.svgtree.proofs.Following.{last_read, level_there, child_there}

-- A link that is read leads to a node in use.
pub read_inside : (n : ℕ) (o : Option ℕ) (l : ℕ) → link_within n o ≡ Some l → l < n
read_inside n None l is = absurd (none-some l is)
read_inside n (Some k) l is = let both = cond_some (ltb k n) k l is in subst (λ (j : ℕ). j < n) both.1 (ltb-true k n both.0)

-- WHAT TYING CHANGES

behind_long : (xs : List Node) (p : ℕ) (o : Option ℕ) (m : ℕ) → length (behind_last xs p o m) ≡ length xs
behind_long xs p None m = length-set xs p _
behind_long xs p (Some l) m = length-set xs l _

pub tied_long : (xs : List Node) (p : ℕ) (o : Option ℕ) (m : ℕ) → length (tied xs p o m) ≡ length xs
tied_long xs p o m = length-set (behind_last xs p o m) p _ ∙ behind_long xs p o m

-- what the first child and the next sibling are no part of stays
behind_kept : {Y : Type 0} (f : Node → Y) (xs : List Node) (p : ℕ) (o : Option ℕ) (m : ℕ) →
    ((n : Node) (i : ℕ) → f (with_first_child n i) ≡ f n) → ((n : Node) (i : ℕ) → f (with_next_sibling n i) ≡ f n) →
    map f (behind_last xs p o m) ≡ map f xs
behind_kept f xs p None m first next = map-set_same f xs p _ no_node (first _ m)
behind_kept f xs p (Some l) m first next = map-set_same f xs l _ no_node (next _ m)

-- and what the last child is no part of either
tied_kept : {Y : Type 0} (f : Node → Y) (xs : List Node) (p : ℕ) (o : Option ℕ) (m : ℕ) →
    ((n : Node) (i : ℕ) → f (with_first_child n i) ≡ f n) → ((n : Node) (i : ℕ) → f (with_last_child n i) ≡ f n) → ((n : Node) (i : ℕ) → f (with_next_sibling n i) ≡ f n) →
    map f (tied xs p o m) ≡ map f xs
tied_kept f xs p o m first last next = map-set_same f (behind_last xs p o m) p _ no_node (last _ m) ∙ behind_kept f xs p o m first next

-- of each node
kept_at : {Y : Type 0} (f : Node → Y) (xs ys : List Node) (k : ℕ) → map f xs ≡ map f ys → f (node_at xs k) ≡ f (node_at ys k)
kept_at {Y} f xs ys k e = sym (get_or-map f xs k no_node) ∙ ap (λ (zs : List Y). get_or zs k (f no_node)) e ∙ get_or-map f ys k no_node

-- the first child of any other than p
tied_first_same : (xs : List Node) (p : ℕ) (o : Option ℕ) (m k : ℕ) → k ≢ p → (node_at (tied xs p o m) k).first_child ≡ (node_at xs k).first_child
tied_first_same xs p o m k other = untouched (λ n. n.first_child) (behind_last xs p o m) p _ k refl ∙ behind o
  where
    behind : (o : Option ℕ) → (node_at (behind_last xs p o m) k).first_child ≡ (node_at xs k).first_child
    behind None = ap (λ (n : Node). n.first_child) (get_or-set_other xs p k _ no_node other)
    behind (Some l) = untouched (λ n. n.first_child) xs l _ k refl

tied_first_new : (xs : List Node) (p : ℕ) (o : Option ℕ) (m : ℕ) → p < length xs → (node_at (tied xs p o m) p).first_child ≡ first_behind o (node_at xs p).first_child m
tied_first_new xs p o m inside = untouched (λ n. n.first_child) (behind_last xs p o m) p _ p refl ∙ behind o
  where
    behind : (o : Option ℕ) → (node_at (behind_last xs p o m) p).first_child ≡ first_behind o (node_at xs p).first_child m
    behind None = ap (λ (n : Node). n.first_child) (get_or-set_same xs p _ no_node inside)
    behind (Some l) = untouched (λ n. n.first_child) xs l _ p refl

tied_last_same : (xs : List Node) (p : ℕ) (o : Option ℕ) (m k : ℕ) → k ≢ p → (node_at (tied xs p o m) k).last_child ≡ (node_at xs k).last_child
tied_last_same xs p o m k other =
    ap (λ (n : Node). n.last_child) (get_or-set_other (behind_last xs p o m) p k _ no_node other)
    ∙ kept_at (λ n. n.last_child) (behind_last xs p o m) xs k (behind_kept (λ n. n.last_child) xs p o m (λ n i. refl) (λ n i. refl))

tied_last_new : (xs : List Node) (p : ℕ) (o : Option ℕ) (m : ℕ) → p < length xs → (node_at (tied xs p o m) p).last_child ≡ Some m
tied_last_new xs p o m inside =
    ap (λ (n : Node). n.last_child)
    (get_or-set_same (behind_last xs p o m) p (with_last_child (node_at (behind_last xs p o m) p) m) no_node (omega (arith, behind_long xs p o m)))

-- the next sibling of any other than the last child
tied_next_same : (xs : List Node) (p : ℕ) (o : Option ℕ) (m k : ℕ) → o ≢ Some k → (node_at (tied xs p o m) k).next_sibling ≡ (node_at xs k).next_sibling
tied_next_same xs p o m k other = untouched (λ n. n.next_sibling) (behind_last xs p o m) p _ k refl ∙ behind o other
  where
    behind : (o : Option ℕ) → o ≢ Some k → (node_at (behind_last xs p o m) k).next_sibling ≡ (node_at xs k).next_sibling
    behind None apart = untouched (λ n. n.next_sibling) xs p _ k refl
    behind (Some l) apart = ap (λ (n : Node). n.next_sibling) (get_or-set_other xs l k _ no_node (λ e. apart (ap Some (sym e))))

tied_next_new : (xs : List Node) (p l m : ℕ) → l < length xs → (node_at (tied xs p (Some l) m) l).next_sibling ≡ Some m
tied_next_new xs p l m inside =
    untouched (λ n. n.next_sibling) (behind_last xs p (Some l) m) p _ l refl ∙ ap (λ (n : Node). n.next_sibling) (get_or-set_same xs l _ no_node inside)

-- links stay links
linked_more : (ns : List Node) (n p : ℕ) (o : Option ℕ) (kind : Kind) → p < n → n < length ns → o ≡ link_within n (node_at ns p).last_child →
    Linked (take n ns) → Linked (take (n + 1) (tied (set ns n (fresh kind p ((node_at ns p).level + 1))) p o n))
unfolding Linked
linked_more ns n p o kind pn nl el h =
    subst Goal (sym long)
    (ties_more n (par os) (lev os) (first os) (last os) (next os) (par ms) (lev ms) (first ms) (last ms) (next ms) p old pn par_s par_n lev_s lev_n first_s first_p first_n last_s last_p last_n next_s next_l next_n)
  where
    os : List Node
    os = take n ns

    f : Node
    f = fresh kind p ((node_at ns p).level + 1)

    xs : List Node
    xs = set ns n f

    ys : List Node
    ys = tied xs p o n

    ms : List Node
    ms = take (n + 1) ys

    par : List Node → ℕ → ℕ
    par t k = (node_at t k).parent

    lev : List Node → ℕ → ℕ
    lev t k = (node_at t k).level

    first : List Node → ℕ → Option ℕ
    first t k = (node_at t k).first_child

    last : List Node → ℕ → Option ℕ
    last t k = (node_at t k).last_child

    next : List Node → ℕ → Option ℕ
    next t k = (node_at t k).next_sibling

    Goal : ℕ → Type 0
    Goal z = Ties z (par ms) (lev ms) (first ms) (last ms) (next ms)

    Old : ℕ → Type 0
    Old z = Ties z (par os) (lev os) (first os) (last os) (next os)

    wide : length xs ≡ length ns
    wide = length-set ns n f

    long : length ms ≡ n + 1
    long = length-take-le (n + 1) ys (omega (arith, tied_long xs p o n, wide))

    old : Old n
    old = subst Old (length-take-le n ns (omega arith)) h

    -- a node of the new list, of the one with the write, and of the old one
    new_at : (k : ℕ) → k < n + 1 → node_at ms k ≡ node_at ys k
    new_at k i = get_or-take (n + 1) ys k no_node i

    old_at : (k : ℕ) → k < n → node_at xs k ≡ node_at os k
    old_at k i = get_or-set_other ns n k f no_node (omega arith) ∙ sym (get_or-take n ns k no_node i)

    here : node_at xs n ≡ f
    here = get_or-set_same ns n f no_node nl

    -- the last child is a node, so that its link is read as it stands
    same : o ≡ last os p
    same =
        let e : last os p ≡ (node_at ns p).last_child = ap (λ (t : Node). t.last_child) (get_or-take n ns p no_node pn) in
        el ∙ ap (λ (q : Option ℕ). link_within n q) (sym e) ∙ last_read n (par os) p (last os p) (old.lasts p pn)

    last_is : (l : ℕ) → last os p ≡ Some l → Last n (par os) p (Some l)
    last_is l e = subst (λ (q : Option ℕ). Last n (par os) p q) e (old.lasts p pn)

    -- what tying lets be is the same of a node of the new list and of the old one, and of the new node
    still : {Y : Type 0} (g : Node → Y) (k : ℕ) → k < n → g (node_at ys k) ≡ g (node_at xs k) → g (node_at ms k) ≡ g (node_at os k)
    still g k i e = ap g (new_at k (omega arith)) ∙ e ∙ ap g (old_at k i)

    newly : {Y : Type 0} (g : Node → Y) → g (node_at ys n) ≡ g (node_at xs n) → g (node_at ms n) ≡ g f
    newly g e = ap g (new_at n (omega arith)) ∙ e ∙ ap g here

    lev_kept : (k : ℕ) → lev ys k ≡ lev xs k
    lev_kept k = kept_at (λ t. t.level) ys xs k (tied_kept (λ t. t.level) xs p o n (λ t i. refl) (λ t i. refl) (λ t i. refl))

    par_kept : (k : ℕ) → par ys k ≡ par xs k
    par_kept k = kept_at (λ t. t.parent) ys xs k (tied_kept (λ t. t.parent) xs p o n (λ t i. refl) (λ t i. refl) (λ t i. refl))

    lev_s : (j : ℕ) → j < n → lev ms j ≡ lev os j
    lev_s j i = still (λ t. t.level) j i (lev_kept j)

    lev_n : lev ms n ≡ lev os p + 1
    lev_n = newly (λ t. t.level) (lev_kept n) ∙ ap (λ (t : Node). t.level + 1) (sym (get_or-take n ns p no_node pn))

    par_s : (j : ℕ) → j < n → par ms j ≡ par os j
    par_s j i = still (λ t. t.parent) j i (par_kept j)

    par_n : par ms n ≡ p
    par_n = newly (λ t. t.parent) (par_kept n)

    first_s : (k : ℕ) → k < n → k ≢ p → first ms k ≡ first os k
    first_s k i d = still (λ t. t.first_child) k i (tied_first_same xs p o n k d)

    first_p : first ms p ≡ first_behind (last os p) (first os p) n
    first_p =
        ap (λ (t : Node). t.first_child) (new_at p (omega arith)) ∙ tied_first_new xs p o n (omega (arith, wide))
        ∙ ap (λ (q : Option ℕ). first_behind q (first xs p) n) same
        ∙ ap (λ (t : Node). first_behind (last os p) t.first_child n) (old_at p pn)

    first_n : first ms n ≡ None
    first_n = newly (λ t. t.first_child) (tied_first_same xs p o n n (omega arith))

    last_s : (k : ℕ) → k < n → k ≢ p → last ms k ≡ last os k
    last_s k i d = still (λ t. t.last_child) k i (tied_last_same xs p o n k d)

    last_p : last ms p ≡ Some n
    last_p = ap (λ (t : Node). t.last_child) (new_at p (omega arith)) ∙ tied_last_new xs p o n (omega (arith, wide))

    last_n : last ms n ≡ None
    last_n = newly (λ t. t.last_child) (tied_last_same xs p o n n (omega arith))

    next_s : (k : ℕ) → k < n → last os p ≢ Some k → next ms k ≡ next os k
    next_s k i d = still (λ t. t.next_sibling) k i (tied_next_same xs p o n k (λ e. d (sym same ∙ e)))

    next_l : (l : ℕ) → last os p ≡ Some l → next ms l ≡ Some n
    next_l l e =
        let b : l < n = (last_is l e).1 in
        ap (λ (t : Node). t.next_sibling) (new_at l (omega arith)) ∙ ap (λ (q : Option ℕ). next (tied xs p q n) l) (same ∙ e) ∙ tied_next_new xs p l n (omega (arith, wide))

    next_n : next ms n ≡ None
    next_n = newly (λ t. t.next_sibling) (tied_next_same xs p o n n (λ e. omega (arith, (last_is n (sym same ∙ e)).1)))

-- ADDING

module _ (d : Document) (ns : List Node) (p : ℕ) where
  abbrev model_refusal : Option Refusal
  model_refusal =
      first_of
      (add_checks (length ns) (count (model_of d ns)) (ltb p (count (model_of d ns))) (item (model_of d ns) p).element.kind (nonempty (children (model_of d ns) p)) (level (model_of d ns) p))

  -- where a node may be placed, its parent was added and a place is free
  pub place_there : place_refusal d ns p ≡ None → (p < length (nodes_of d ns)) × (length (nodes_of d ns) < length ns)
  place_there accepted =
      let n : ℕ = length (nodes_of d ns) in
      let each = passes (add_checks (length ns) n (ltb p n) (node_at ns p).element.kind (is_some (last_link d ns p)) (node_at ns p).level) accepted in
      (ltb-true p n (not-false (ltb p n) each.0), omega (arith, leb-false (min (length ns) max_nodes) n each.1.1.0))

  -- where memory is linked, what it has for the parent is what the document has
  same_refusal : Linked (nodes_of d ns) → model_refusal ≡ place_refusal d ns p
  same_refusal linked =
      elim (cases_lt p (length (nodes_of d ns))) [
        | inl inside ↦
            let there : (item (model_of d ns) p).element.kind ≡ (node_at ns p).element.kind = ap (λ (it : Item). it.element.kind) (model_item d ns p ∙ ap item_of (node_used d ns p inside)) in
            let deep : level (model_of d ns) p ≡ (node_at ns p).level = sym (level_there d ns p linked inside) ∙ ap (λ (n : Node). n.level) (node_used d ns p inside) in
            rw (child_there d ns p linked inside, deep, there, model_count d ns) refl
        | inr past ↦
            cond-true _ _ _ (ap not (le-ltb p (count (model_of d ns)) (omega (arith, model_count d ns))))
            ∙ sym (cond-true _ _ _ (ap not (le-ltb p (length (nodes_of d ns)) past)))
      ]

  pub add_refused : (kind : Kind) (e : Refusal) → place_refusal d ns p ≡ Some e → Added d ns p kind (Err e) d ns
  add_refused kind e is =
      record {
        answer = ap (λ (r : Option Refusal). unless r (length (nodes_of d ns))) (sym is);
        counted = refl;
        memory = refl;
        document = refl;
        step = λ linked. ap (λ (r : Option Refusal). outcome r (count (model_of d ns)) (model_of d ns) (with_child (model_of d ns) p kind)) (sym (same_refusal linked ∙ is));
        links = λ linked. linked;
      }

  -- the count as it is read stands for the same nodes
  nodes_again : take (length (nodes_of d ns)) ns ≡ nodes_of d ns
  nodes_again = ap (λ (n : ℕ). take n ns) (nodes_count d ns) ∙ take_min d.count ns

  placed_model : (kind : Kind) → length (nodes_of d ns) < length ns → model_of (record { count = length (nodes_of d ns) + 1; options = d.options }) (placed d ns p kind) ≡ with_child (model_of d ns) p kind
  placed_model kind free =
      let n : ℕ = length (nodes_of d ns) in
      let f : Node = fresh kind p ((node_at ns p).level + 1) in
      ap (λ (items : List Item). record { options = d.options; items = items })
      (sym (take-map item_of (n + 1) (placed d ns p kind))
      ∙ ap (λ (t : List Item). take (n + 1) t) (tied_kept item_of (set ns n f) p (last_link d ns p) n (λ t i. refl) (λ t i. refl) (λ t i. refl))
      ∙ take-map item_of (n + 1) (set ns n f)
      ∙ ap (λ (t : List Node). map item_of t) (take_more_set ns n f free)
      ∙ map_push item_of (take n ns) f
      ∙ ap (λ (t : List Node). map item_of t ++ item_of f ∷ []) nodes_again)

  pub add_done : (kind : Kind) → place_refusal d ns p ≡ None → p < length (nodes_of d ns) → length (nodes_of d ns) < length ns →
      Added d ns p kind (Ok (length (nodes_of d ns))) (record { count = length (nodes_of d ns) + 1; options = d.options }) (placed d ns p kind)
  add_done kind is inside free =
      record {
        answer = ap (λ (r : Option Refusal). unless r (length (nodes_of d ns))) (sym is);
        counted = refl;
        memory = refl;
        document = placed_model kind free;
        step = λ linked.
            ap (λ (n : ℕ). record { answer = Ok n; document = model_of (record { count = length (nodes_of d ns) + 1; options = d.options }) (placed d ns p kind) }) (sym (model_count d ns))
            ∙ ap (λ (m : Model). record { answer = Ok (count (model_of d ns)); document = m }) (placed_model kind free)
            ∙ ap (λ (r : Option Refusal). outcome r (count (model_of d ns)) (model_of d ns) (with_child (model_of d ns) p kind)) (sym (same_refusal linked ∙ is));
        links = λ linked. linked_more ns (length (nodes_of d ns)) p (last_link d ns p) kind inside free refl (subst Linked (sym nodes_again) linked);
      }

  -- A PARENT WAS READ, and these are the values of the code
  module _ (above : Node) (read : slice_get (nodes_of d ns) p ≡ Some above) (n : ℕ) (listed : n ≡ length (nodes_of d ns)) (last : Option ℕ) (link : last ≡ link_within n above.last_child) where
    above_there : above ≡ node_at ns p
    above_there = sym (found_there d ns p above read) ∙ node_used d ns p (found_inside d ns p above read)

    link_there : last ≡ last_link d ns p
    link_there = link ∙ ap (λ (m : ℕ). link_within m above.last_child) listed ∙ ap (λ (x : Node). link_within (length (nodes_of d ns)) x.last_child) above_there

    abbrev tests : List (Bool × Refusal)
    tests = (not (takes_child above.element.kind (is_some last)), ChildNotAllowed) ∷ (leb (min (length ns) max_nodes) n, DocumentFull) ∷ (leb max_levels above.level, TooDeep) ∷ []

    known : place_refusal d ns p ≡ first_of tests
    known =
        cond-false _ _ _ (ap not (lt-ltb p (length (nodes_of d ns)) (found_inside d ns p above read)))
        ∙ sym (rw (link_there, listed, above_there) refl)

    pub add_fails : (r : Result (Unit {0}) Refusal) → r ≡ unless (first_of tests) tt → (kind : Kind) (e : Refusal) → r ≡ Err e → Added d ns p kind (Err e) d ns
    add_fails r answer kind e fails = add_refused kind e (known ∙ was_refused (first_of tests) tt e (sym answer ∙ fails))

    pub add_passes : (r : Result (Unit {0}) Refusal) → r ≡ unless (first_of tests) tt → (kind : Kind) (f : Node) (more : ℕ) (vs ws : List Node) → r ≡ Ok tt →
        f ≡ fresh kind p (above.level + 1) → Appended ns n f more vs → ws ≡ tied vs p last n → Added d ns p kind (Ok n) (record { count = more; options = d.options }) ws
    add_passes r answer kind f more vs ws all_pass made appended tying =
        let free : n < length ns = appended.free in
        let counted : more ≡ length (nodes_of d ns) + 1 = appended.counted ∙ ap (λ (m : ℕ). m + 1) listed in
        let new : f ≡ fresh kind p ((node_at ns p).level + 1) = made ∙ ap (λ (x : Node). fresh kind p (x.level + 1)) above_there in
        let memory : ws ≡ placed d ns p kind =
        tying
        ∙ ap (λ (xs : List Node). tied xs p last n) (appended.memory ∙ ap (λ (x : Node). set ns n x) new)
        ∙ ap (λ (l : Option ℕ). tied (set ns n (fresh kind p ((node_at ns p).level + 1))) p l n) link_there
        ∙ ap (λ (m : ℕ). tied (set ns m (fresh kind p ((node_at ns p).level + 1))) p (last_link d ns p) m) listed in
        rw (counted, memory, listed) (add_done kind (known ∙ not_refused (first_of tests) tt tt (sym answer ∙ all_pass)) (found_inside d ns p above read) (omega arith))
