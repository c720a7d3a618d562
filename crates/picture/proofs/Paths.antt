-- Children, and what is above them; states, chains and drawing along paths.
use Rattle.std.proofs.Common.{◌≡◌, ℕ, zero, suc, ◌-◌, ◌<◌, ◌≤◌, true, false, cond, eqb, ◌⊎◌, List, [], ◌∷◌, ◌++◌, sym, refl, ap, ◌∙◌, inl, inr, append_assoc, append-nil, arith, subst}
use Rattle.std.specs.List.{AllByRecursion}
use Rattle.std.proofs.lemmas.Bool.{cases_eq, eqb-true, ne_eqb, eq-eqb, cond-true, cond-false, and_from, and_left, and_right, and_parts}
use Rattle.std.proofs.lemmas.List.Folds.{list_all-append}
use Rattle.std.proofs.lemmas.List.Sums.{fold-append}
use Rattle.picture.specs.Nodes.{Nodes, children, climb, above, path, Tree}
use Rattle.picture.specs.Rules.{Rules, drawn_at, groups_at, inside_at}
use Rattle.picture.specs.Document.{every, state_along, chain_along, state_of, chain_of, shown}
use Rattle.picture.proofs.Lists.{all_counted}

module _ {Item : Type 0} (d : Nodes Item) where
  -- k is a child of n
  pub record Child (n k : ℕ) : Type 0 where
    pub low : 0 < k
    pub high : k < d.count
    pub parent : d.parent k ≡ n

  pub children_are : (n : ℕ) → AllByRecursion (Child n) (children d n)
  children_are n = all_counted (Child n) (λ k. eqb (d.parent k) n) 1 (d.count - 1) (λ k lo hi e. record { low = omega arith; high = omega arith; parent = eqb-true (d.parent k) n e })

-- every node but the root is a child of its parent
pub child_of : {Item : Type 0} (d : Nodes Item) (k : ℕ) → 0 < k → k < d.count → Child d (d.parent k) k
child_of d k h l = record { low = h; high = l; parent = refl }

module _ {Item : Type 0} (d : Nodes Item) (l : ℕ) (tree : Tree d l) where
  -- more steps than n do not matter
  climb_enough : (f g n : ℕ) → n < d.count → n ≤ f → n ≤ g → climb d f n ≡ climb d g n
  unfolding climb
  climb_enough zero zero n h a b = refl
  climb_enough zero (suc g) n h a b = sym (cond-true (eqb n 0) _ _ (eq-eqb n 0 (omega arith)))
  climb_enough (suc f) zero n h a b = cond-true (eqb n 0) _ _ (eq-eqb n 0 (omega arith))
  climb_enough (suc f) (suc g) n h a b = elim (cases_eq n 0) [
    | inl e ↦ simp (eq-eqb n 0 e)
    | inr e ↦
        let p : d.parent n < n = tree.before n (omega arith) h in
        ap (λ (ks : List ℕ). cond (eqb n 0) [] (ks ++ d.parent n ∷ [])) (climb_enough f g (d.parent n) (omega arith) (omega arith) (omega arith))
  ]

  above_suc : (f : ℕ) → suc f < d.count → above d (suc f) ≡ path d (d.parent (suc f))
  unfolding climb
  above_suc f h =
      let p : d.parent (suc f) < suc f = tree.before (suc f) (omega arith) h in
      cond-false (eqb (suc f) 0) _ _ (ne_eqb (suc f) 0 (λ e. omega arith))
      ∙ ap (λ (ks : List ℕ). ks ++ d.parent (suc f) ∷ []) (climb_enough f (d.parent (suc f)) (d.parent (suc f)) (omega arith) (omega arith) (omega arith))

  -- what is above a child is the path to its parent
  pub above_child : (n k : ℕ) → Child d n k → above d k ≡ path d n
  above_child n zero c = absurd (omega (arith, c.low))
  above_child n (suc f) c = above_suc f c.high ∙ ap (path d) c.parent

  pub child_gt : (n k : ℕ) → Child d n k → n < k
  child_gt n k c = let lt : d.parent k < k = tree.before k c.low c.high in omega (arith, c.parent)

  -- what holds of the root, and of each child where it holds of its parent, holds of every node
  pub by_parents : (P : ℕ → Type 0) → P 0 → ((p n : ℕ) → Child d p n → P p → P n) → (n : ℕ) → n < d.count → P n
  by_parents P root step n h = go n n (omega arith) h
    where
      go : (b n : ℕ) → n ≤ b → n < d.count → P n
      go zero n le h = subst P (omega arith) root
      go (suc b) n le h = elim (cases_eq n 0) [
        | inl e ↦ subst P (sym e) root
        | inr e ↦
            let c : Child d (d.parent n) n = child_of d n (omega arith) h in
            let lt : d.parent n < n = child_gt (d.parent n) n c in
            step (d.parent n) n c (go b (d.parent n) (omega arith) (omega arith))
      ]

module _ {Item State Group Mark : Type 0} (R : Rules Item State Group Mark) (d : Nodes Item) where
  pub chain_append : (ks js : List ℕ) (s : State) → chain_along R d (ks ++ js) s ≡ chain_along R d ks s ++ chain_along R d js (state_along R d ks s)
  chain_append [] js s = refl
  chain_append (k ∷ ks) js s = simp (chain_append ks js (inside_at R d k s), append_assoc)

  -- the chain of a node is that of what is above it, and its own groups
  pub chain_own : (s : State) (n : ℕ) → chain_of R d s n ≡ chain_along R d (above d n) s ++ groups_at R d n (state_of R d s n)
  chain_own s n = simp (chain_append, append-nil)

  -- a node is shown exactly when all above it are drawn, and it is
  pub shown_from : (n : ℕ) → every (drawn_at R d) (above d n) ≡ true → drawn_at R d n ≡ true → shown R d n ≡ true
  shown_from n a b = list_all-append (drawn_at R d) (above d n) (n ∷ []) ∙ and_from _ _ a (and_from _ _ b refl)

  pub shown_parts : (n : ℕ) → shown R d n ≡ true → (every (drawn_at R d) (above d n) ≡ true) × (drawn_at R d n ≡ true)
  shown_parts n e =
      let q : (every (drawn_at R d) (above d n) ≡ true) × (every (drawn_at R d) (n ∷ []) ≡ true) = and_parts _ _ (sym (list_all-append (drawn_at R d) (above d n) (n ∷ [])) ∙ e) in
      (q.0, (and_parts _ _ q.1).0)

  pub not_shown : (n : ℕ) → (every (drawn_at R d) (above d n) ≡ false) ⊎ (drawn_at R d n ≡ false) → shown R d n ≡ false
  not_shown n (inl a) = list_all-append (drawn_at R d) (above d n) (n ∷ []) ∙ and_left _ _ a
  not_shown n (inr b) = list_all-append (drawn_at R d) (above d n) (n ∷ []) ∙ and_right _ _ (and_left _ _ b)

module _ {Item State Group Mark : Type 0} (R : Rules Item State Group Mark) (d : Nodes Item) (l : ℕ) (tree : Tree d l) where
  -- the state, the chain and the drawing above a child, by its parent's
  pub state_child : (s : State) (n k : ℕ) → Child d n k → state_of R d s k ≡ inside_at R d n (state_of R d s n)
  state_child s n k c = ap (λ (ks : List ℕ). state_along R d ks s) (above_child d l tree n k c) ∙ fold-append (λ u k. inside_at R d k u) s (above d n) (n ∷ [])

  pub chain_child : (s : State) (n k : ℕ) → Child d n k → chain_along R d (above d k) s ≡ chain_of R d s n
  chain_child s n k c = ap (λ (ks : List ℕ). chain_along R d ks s) (above_child d l tree n k c)

  pub drawn_child : (n k : ℕ) → Child d n k → every (drawn_at R d) (above d k) ≡ shown R d n
  drawn_child n k c = ap (every (drawn_at R d)) (above_child d l tree n k c)
