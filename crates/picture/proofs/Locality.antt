-- How a leaf is seen rests on its path alone.
use Rattle.std.proofs.Common.{◌≡◌, ℕ, ◌<◌, Bool, true, cond, ◌&&◌, eqb, List, [], ◌∷◌, ◌++◌, Some, None, Option, sym, refl, ap, ◌∙◌, subst, inl, inr, arith, false}
use mathlib.Core.List.Memᴰ
use Rattle.std.specs.List.{AllByRecursion}
use Rattle.std.proofs.lemmas.Bool.{cases_Bool, cases_eq, eq-eqb, both_ways}
use Rattle.std.proofs.lemmas.List.Folds.{list_all-append}
use Rattle.picture.specs.Nodes.{Nodes, first_item, first_child, parent_item, climb, above, path, Tree}
use Rattle.picture.specs.Rules.{Rules, leaf_at, drawn_at, groups_at, inside_at}
use Rattle.picture.specs.Document.{every, chain_along, state_of, chain_of, shown, shown_leaf, seen_at}
use Rattle.picture.specs.Brackets.{In}
use Rattle.picture.specs.Locality.{LooksAtChildOf, OneChildUnder, SameNode, LeafRestsOnItsPath}
use Rattle.picture.proofs.Paths.{Child, above_child, state_child, chain_child, drawn_child, chain_own, child_of, child_gt, by_parents}
use Rattle.picture.proofs.Members.{self_in, Siblings, siblings}

-- an only child is the first
first_only : {Item : Type 0} (uses : Item → Bool) (d : Nodes Item) → OneChildUnder uses d → (p k : ℕ) → Child d p k → uses (d.item p) ≡ true → first_child d p ≡ Some (d.item k)
first_only uses d one p k c u =
    let t : Siblings d p k = siblings d p k c in ap (first_item d) t.is ∙ go t.left t.right t.lefts
  where
    go : (js ks : List ℕ) → AllByRecursion (λ j. Child d p j × (j < k)) js → first_item d (js ++ k ∷ ks) ≡ Some (d.item k)
    go [] ks a = refl
    go (j ∷ js) ks a =
        let b : Child d p j = a.0.0 in
        let e : j ≡ k = one j k b.low b.high c.low c.high (b.parent ∙ sym c.parent) (ap (λ (x : ℕ). uses (d.item x)) b.parent ∙ u) in
        absurd (omega (arith, a.0.1))

module _ {Item State Group Mark : Type 0} (R : Rules Item State Group Mark) (uses : Item → Bool) (looks : LooksAtChildOf uses R) (d e : Nodes Item) (l m : ℕ) (t : Tree d l) (v : Tree e m) (one : OneChildUnder uses d) (two : OneChildUnder uses e) (s : State) where
  -- what is above n is the same in both
  record Agree (n : ℕ) : Type 0 where
    aboves : above d n ≡ above e n
    states : state_of R d s n ≡ state_of R e s n
    chains : chain_along R d (above d n) s ≡ chain_along R e (above e n) s
    drawns : every (drawn_at R d) (above d n) ≡ every (drawn_at R e) (above e n)

  agree_root : Agree 0
  unfolding climb
  agree_root = record { aboves = refl; states = refl; chains = refl; drawns = refl }

  same_drawn : (n : ℕ) → SameNode d e n → (0 < n → SameNode d e (d.parent n)) → drawn_at R d n ≡ drawn_at R e n
  same_drawn n a b =
      let q : parent_item d n ≡ parent_item e n = elim (cases_eq n 0) [
        | inl z ↦ simp (eq-eqb n 0 z)
        | inr z ↦ let h : 0 < n = omega arith in ap (λ (x : Item). cond (eqb n 0) None (Some x)) ((b h).0 ∙ ap e.item (a.1 h))
      ] in
      λ i. R.drawn (q i) (a.0 i)

  -- the first child is the same where the rules look at it
  abbrev SameChild : ℕ → Type 0
  SameChild n = uses (d.item n) ≡ true → first_child d n ≡ first_child e n

  same_at : {Thing : Type 0} (F : Item → Option Item → Thing) (n : ℕ) → ((i : Item) (a b : Option Item) → uses i ≡ false → F i a ≡ F i b) → SameNode d e n → SameChild n → F (d.item n) (first_child d n) ≡ F (e.item n) (first_child e n)
  same_at F n look a f =
      ap (λ (i : Item). F i (first_child d n)) a.0
      ∙ (elim (cases_Bool (uses (d.item n))) [
        | inl x ↦ ap (F (e.item n)) (f x)
        | inr x ↦ look (e.item n) (first_child d n) (first_child e n) (ap uses (sym a.0) ∙ x)
      ])

  same_groups : (n : ℕ) (u : State) → SameNode d e n → SameChild n → groups_at R d n u ≡ groups_at R e n u
  same_groups n u = same_at (λ i c. R.groups n i c u) n (λ i a b. looks.groups n i a b u)

  same_inside : (n : ℕ) (u : State) → SameNode d e n → SameChild n → inside_at R d n u ≡ inside_at R e n u
  same_inside n u = same_at (λ i c. R.inside n i c u) n (λ i a b. looks.inside n i a b u)

  -- with its own groups and its own drawing
  same_chain : (n : ℕ) → Agree n → SameNode d e n → SameChild n → chain_of R d s n ≡ chain_of R e s n
  same_chain n g a f =
      chain_own R d s n
      ∙ ap (λ (x : List Group). x ++ groups_at R d n (state_of R d s n)) g.chains
      ∙ ap (λ (x : List Group). chain_along R e (above e n) s ++ x) (same_groups n (state_of R d s n) a f ∙ ap (groups_at R e n) g.states)
      ∙ sym (chain_own R e s n)

  same_shown : (n : ℕ) → Agree n → SameNode d e n → (0 < n → SameNode d e (d.parent n)) → shown R d n ≡ shown R e n
  same_shown n g a b =
      list_all-append (drawn_at R d) (above d n) (n ∷ [])
      ∙ ap (λ (x : Bool). x && (drawn_at R d n && true)) g.drawns
      ∙ ap (λ (x : Bool). every (drawn_at R e) (above e n) && (x && true)) (same_drawn n a b)
      ∙ sym (list_all-append (drawn_at R e) (above e n) (n ∷ []))

  -- the nodes of the path to a parent are those of the path to its child
  up : (p n : ℕ) → Child d p n → ((k : ℕ) → In k (path d n) → SameNode d e k) → (k : ℕ) → In k (path d p) → SameNode d e k
  up p n c a k i = a k (Memᴰ.append_left (n ∷ []) (subst (In k) (sym (above_child d l t p n c)) i))

  agree : (n : ℕ) → n < d.count → n < e.count → ((k : ℕ) → In k (path d n) → SameNode d e k) → Agree n
  agree =
      by_parents d l t (λ n. n < e.count → ((k : ℕ) → In k (path d n) → SameNode d e k) → Agree n) (λ y a. agree_root)
      (λ p n c ih y a.
      let lt : p < n = child_gt d l t p n c in
      let here : SameNode d e n = a n (self_in d n) in
      let ups : (k : ℕ) → In k (path d p) → SameNode d e k = up p n c a in
      let g : Agree p = ih (omega arith) ups in
      let there : SameNode d e p = ups p (self_in d p) in
      let c' : Child e p n = record { low = c.low; high = y; parent = sym (here.1 c.low) ∙ c.parent } in
      let first : SameChild p =
      λ u. first_only uses d one p n c u ∙ ap (λ (i : Item). Some i) here.0 ∙ sym (first_only uses e two p n c' (ap uses (sym there.0) ∙ u)) in
      let higher : 0 < p → SameNode d e (d.parent p) = λ w. up (d.parent p) p (child_of d p w (omega (arith, c.high))) ups (d.parent p) (self_in d (d.parent p)) in
      record {
        aboves = above_child d l t p n c ∙ ap (λ (ks : List ℕ). ks ++ p ∷ []) g.aboves ∙ sym (above_child e m v p n c');
        states = state_child R d l t s p n c ∙ same_inside p (state_of R d s p) there first ∙ ap (inside_at R e p) g.states ∙ sym (state_child R e m v s p n c');
        chains = chain_child R d l t s p n c ∙ same_chain p g there first ∙ sym (chain_child R e m v s p n c');
        drawns = drawn_child R d l t p n c ∙ same_shown p g there higher ∙ sym (drawn_child R e m v p n c');
      })

  at_leaf : (n : ℕ) → n < d.count → n < e.count → leaf_at R d n ≡ true → ((k : ℕ) → In k (path d n) → SameNode d e k) → (path d n ≡ path e n) × (seen_at R d s n ≡ seen_at R e s n) × (shown_leaf R d n ≡ shown_leaf R e n)
  at_leaf n x y f a =
      let g : Agree n = agree n x y a in
      let here : SameNode d e n = a n (self_in d n) in
      let chain : chain_of R d s n ≡ chain_of R e s n = same_chain n g here (λ u. absurd (both_ways (uses (d.item n)) (looks.leaves (d.item n) f) u)) in
      let drawn : shown R d n ≡ shown R e n = same_shown n g here (λ w. up (d.parent n) n (child_of d n w x) a (d.parent n) (self_in d (d.parent n))) in (
        ap (λ (ks : List ℕ). ks ++ n ∷ []) g.aboves,
        (λ i. record { mark = R.mark n (here.0 i) (g.states i); chain = chain i }),
        λ i. R.leaf (here.0 i) && drawn i,
      )

pub leaf_rests_on_its_path : {Item State Group Mark : Type 0} → LeafRestsOnItsPath Item State Group Mark
leaf_rests_on_its_path R uses looks d e l m t v one two n x y f a s = at_leaf R uses looks d e l m t v one two s n x y f a
