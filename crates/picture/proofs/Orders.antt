-- Document order has each node once; and how long a nest can be.
use Rattle.std.proofs.Common.{◌≡◌, ℕ, zero, suc, ◌+◌, ◌*◌, ◌<◌, ◌≤◌, Bool, true, false, cond, not, eqb, List, [], ◌∷◌, map, length, filter, sym, refl, ap, ◌∙◌, subst, inl, inr, mul-add, arith, length-append, mul-suc}
use Rattle.std.specs.List.{flat_map, AllByRecursion}
use Rattle.std.proofs.lemmas.List.Filters.{length-filter_both}
use Rattle.std.proofs.lemmas.Bool.{cases_Bool, cases_eq, cond-true, eq-eqb, ne_eqb}
use Rattle.std.proofs.lemmas.List.Concat.{flat_map_single}
use Rattle.std.proofs.lemmas.List.{map-id}
use mathlib.Core.List.{map-map}
use Rattle.picture.specs.Script.{groups_opened}
use Rattle.picture.specs.Nodes.{Nodes, children, path, order, Tree, OrderHasEachNodeOnce}
use Rattle.picture.specs.Rules.{Rules, leaf_at, drawn_at, groups_at, inside_at, BareLeaves, nest, NestLengthIsBounded}
use Rattle.picture.specs.Document.{every, shown}
use Rattle.picture.specs.Brackets.{owning}
use Rattle.picture.proofs.Lists.{kept_map, all_joined}
use Rattle.picture.proofs.Paths.{Child, children_are}
use Rattle.picture.proofs.Nests.{content}
use Rattle.picture.proofs.Documents.{nest_groups}
use Rattle.picture.proofs.Stretches.{bracketed}
use Rattle.picture.proofs.Scripts.{length_within}

-- LISTS OF NUMBERS IN WHICH EACH STANDS ONCE

-- n left out
abbrev others : ℕ → List ℕ → List ℕ
others n xs = filter (λ m. not (eqb m n)) xs

-- all but the greatest are smaller
others_below : (n : ℕ) (xs : List ℕ) → AllByRecursion (λ m. m < suc n) xs → AllByRecursion (λ m. m < n) (others n xs)
others_below n [] a = tt
others_below n (x ∷ xs) a = elim (cases_eq x n) [
  | inl e ↦ simp (eq-eqb x n e) (others_below n xs a.1)
  | inr e ↦ simp (ne_eqb x n e) (omega (arith, a.0), others_below n xs a.1)
]

-- another number is kept where n is left out
kept_others : (n k : ℕ) → (k ≡ n → ⊥) → (xs : List ℕ) → filter (λ m. eqb m k) (others n xs) ≡ filter (λ m. eqb m k) xs
kept_others n k ne [] = refl
kept_others n k ne (x ∷ xs) = elim (cases_eq x n) [
  | inl e ↦ simp (eq-eqb x n e, ne_eqb x k (λ z. ne (sym z ∙ e)), kept_others n k ne xs)
  | inr e ↦ simp (ne_eqb x n e, kept_others n k ne xs)
]

once_length : (n : ℕ) (xs : List ℕ) → AllByRecursion (λ m. m < n) xs → ((k : ℕ) → k < n → filter (λ m. eqb m k) xs ≡ k ∷ []) → length xs ≡ n
once_length zero [] a h = refl
once_length zero (x ∷ xs) a h = absurd (omega (arith, a.0))
once_length (suc n) xs a h =
    let r : length (others n xs) ≡ n =
    once_length n (others n xs) (others_below n xs a) (λ k l. kept_others n k (λ e. omega arith) xs ∙ h k (omega arith)) in
    let one : length (filter (λ m. eqb m n) xs) ≡ 1 = ap length (h n (omega arith)) in
    let both : length (filter (λ m. eqb m n) xs) + length (others n xs) ≡ length xs = length-filter_both (λ m. eqb m n) (λ m. not (eqb m n)) (λ m. refl) xs in
    omega arith

kept_all : {X : Type 0} (p : X → Bool) → ((x : X) → p x ≡ true) → (xs : List X) → filter p xs ≡ xs
kept_all p h [] = refl
kept_all p h (x ∷ xs) = cond-true (p x) _ _ (h x) ∙ ap (λ (ys : List _). x ∷ ys) (kept_all p h xs)

-- DOCUMENT ORDER is the order in which groups open where all is drawn and each node has one group; such groups open once each

module _ {Item : Type 0} (d : Nodes Item) (L : ℕ) (tree : Tree d L) where
  -- rules by which every node is drawn, in one group, and none is a leaf
  abbrev plain : Rules Item (Unit {0}) (Unit {0}) (Unit {0})
  plain = record { leaf = λ i. false; drawn = λ p i. true; groups = λ n i c s. tt ∷ []; inside = λ n i c s. tt; mark = λ n i s. tt }

  plain_bare : BareLeaves plain d
  plain_bare k h l = refl

  all_drawn : (ks : List ℕ) → every (drawn_at plain d) ks ≡ true
  all_drawn [] = refl
  all_drawn (k ∷ ks) = all_drawn ks

  -- whose the groups are that open
  abbrev nodes : List ℕ
  nodes = map (λ g. g.node) (groups_opened (nest (owning plain) d L 0 tt))

  nodes_order : nodes ≡ order d L 0
  nodes_order =
      ap (map (λ g. g.node)) (nest_groups (owning plain) d L tree plain_bare tt)
      ∙ simp (flat_map_single, map-map, map-id) (kept_all (shown (owning plain) d) (λ n. all_drawn (path d n)) (order d L 0))

  order_below : (l n : ℕ) → n < d.count → AllByRecursion (λ m. m < d.count) (order d l n)
  unfolding order
  order_below zero n h = tt
  order_below (suc l) n h = (h, all_joined (λ m. m < d.count) (Child d n) (λ k. order d l k) (children d n) (children_are d n) (λ k c. order_below l k c.high))

  order_once : (n : ℕ) → n < d.count → filter (λ m. eqb m n) (order d L 0) ≡ n ∷ []
  order_once n h =
      ap (filter (λ m. eqb m n)) (sym nodes_order)
      ∙ kept_map (λ m. eqb m n) (λ g. g.node) (groups_opened (nest (owning plain) d L 0 tt))
      ∙ ap (map (λ g. g.node)) ((bracketed plain d L tree plain_bare tt).once n h ∙ cond-true (shown plain d n) _ _ (all_drawn (path d n)))

  pub order_length : length (order d L 0) ≡ d.count
  order_length = once_length d.count (order d L 0) (order_below L 0 tree.root) order_once

pub order_has_each_node_once : {Item : Type 0} → OrderHasEachNodeOnce Item
order_has_each_node_once d l t = (order_below d l t l 0 t.root, order_once d l t, order_length d l t)

-- THE LENGTH OF A NEST

length_joined_le : {X A B : Type 0} (b : ℕ) (P : X → Type 0) (f : X → List A) (g : X → List B) → ((x : X) → P x → length (f x) ≤ b * length (g x)) → (xs : List X) → AllByRecursion P xs → length (flat_map f xs) ≤ b * length (flat_map g xs)
length_joined_le b P f g h [] a = omega arith
length_joined_le b P f g h (x ∷ xs) a =
    simp (length-append, mul-add) (omega (arith, h x a.0, length_joined_le b P f g h xs a.1))

module _ {Item State Group Mark : Type 0} (R : Rules Item State Group Mark) (d : Nodes Item) (b : ℕ) (few : (n : ℕ) (s : State) → n < d.count → 2 * length (groups_at R d n s) + cond (leaf_at R d n) 1 0 ≤ b) where
  length_content : (l n : ℕ) (s : State) → n < d.count → ((k : ℕ) (u : State) → k < d.count → length (nest R d l k u) ≤ b * length (order d l k)) → length (content R d l n s) ≤ cond (leaf_at R d n) 1 0 + b * length (flat_map (λ k. order d l k) (children d n))
  length_content l n s h ih = elim (cases_Bool (leaf_at R d n)) [
    | inl e ↦ simp e (omega arith)
    | inr e ↦
        let u : State = inside_at R d n s in
        simp e (omega (arith, length_joined_le b (Child d n) (λ k. nest R d l k u) (λ k. order d l k) (λ k x. ih k u x.high) (children d n) (children_are d n)))
  ]

  pub length_nest : (l n : ℕ) (s : State) → n < d.count → length (nest R d l n s) ≤ b * length (order d l n)
  unfolding nest order
  length_nest zero n s h = omega arith
  length_nest (suc l) n s h =
      elim (cases_Bool (drawn_at R d n)) [
        | inr e ↦ simp e (omega arith)
        | inl e ↦ simp (e, length_within, mul-suc) (omega (arith, few n s h, length_content l n s h (λ k u g. length_nest l k u g)))
      ]

pub nest_length_is_bounded : {Item State Group Mark : Type 0} → NestLengthIsBounded Item State Group Mark
nest_length_is_bounded R d l b t few s = subst (λ (n : ℕ). length (nest R d l 0 s) ≤ b * n) (order_length d l t) (length_nest R d b few l 0 s t.root)
