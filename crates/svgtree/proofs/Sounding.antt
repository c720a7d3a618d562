-- The document after any calls is sound.
use Rattle.std.proofs.Common.{◌≡◌, ℕ, zero, suc, ◌+◌, ◌-◌, ◌<◌, ◌≤◌, min, Bool, true, false, cond, ◌&&◌, eqb, ltb, ◌≢◌, ◌⊎◌, List, [], ◌∷◌, ◌++◌, length, get_or, set, Some, None, Ok, Err, filter, Option, Result, sym, refl, ap, ◌∙◌, subst, inl, inr, arith}
use mathlib.Core.Path.{fun_ext}
use Rattle.std.specs.List.{range_with_len}
use Rattle.std.proofs.lemmas.List.{append-nil, length-append, length_push, length-set, get_or_append_left, get_or_push, get_or-set_same, get_or-set_other, set_past}
use Rattle.std.proofs.lemmas.Bool.{true≢false, cases_eq, cases_lt, cond-true, cond-false, eq-eqb, ne_eqb, ltb-true, leb-false, not-true, not-false, and_parts}
use Rattle.refusal.specs.Order.{first_of, unless}
use Rattle.refusal.specs.declared.Refusal.{Refusal}
use Rattle.element.specs.declared.element.Element.{Element}
use Rattle.element.specs.declared.value.Attribute.{Attribute}
use Rattle.element.specs.declared.value.Attribute.TheVariants as attribute
use Rattle.element.specs.declared.value.Kind.{Kind}
use Rattle.element.specs.declared.value.Kind.TheVariants.{Svg}
use Rattle.element.specs.declared.value.Role.{Role}
use Rattle.element.specs.declared.value.Role.TheVariants as role
use Rattle.element.specs.declared.value.Value.{Value}
use Rattle.element.specs.Attributes.{bare, place_of, value_of, with_value}
use Rattle.element.specs.Roles.{role_of}
use Rattle.svgtree.specs.declared.calls.Call.{Call}
use Rattle.svgtree.specs.declared.calls.Call.TheVariants as call
use Rattle.geom.specs.declared.options.Options.{Options}
use Rattle.svgtree.specs.Limits.{max_nodes, max_levels}
use Rattle.svgtree.specs.Allowed.{row, takes_attribute, role_takes_child, takes_child}
use Rattle.svgtree.specs.Model.{Item, Model, no_item, count, item, children, climb, level, beginning, with_child, with_attribute}
use Rattle.svgtree.specs.Steps.{good_options, new_checks, new_step, changed, nonempty, add_checks, set_checks, unset_checks, add_step, set_step, unset_step}
use Rattle.svgtree.specs.Calls.{turn, edited, after_new, after}
use Rattle.svgtree.specs.Sound.{FitFor, Sound}
use Rattle.svgtree.proofs.Reading.{passes, not_refused}
use Rattle.svgtree.proofs.Numbers.{none_kept, kept_same, kept_more}

-- ATTRIBUTES

attribute_at : ℕ → Attribute
attribute_at n =
    get_or
    (attribute.Id ∷ attribute.Shown ∷ attribute.Opacity ∷ attribute.Matrix ∷ attribute.X ∷ attribute.Y ∷ attribute.Width ∷ attribute.Height ∷ attribute.ViewBox ∷ attribute.Aspect ∷ attribute.Overflow ∷ [])
    n attribute.Id

at_place : (a : Attribute) → attribute_at (place_of a) ≡ a
unfolding attribute_at
at_place attribute.Id = refl
at_place attribute.Shown = refl
at_place attribute.Opacity = refl
at_place attribute.Matrix = refl
at_place attribute.X = refl
at_place attribute.Y = refl
at_place attribute.Width = refl
at_place attribute.Height = refl
at_place attribute.ViewBox = refl
at_place attribute.Aspect = refl
at_place attribute.Overflow = refl

-- each attribute has a place of its own
same_attribute : (a b : Attribute) → place_of a ≡ place_of b → a ≡ b
same_attribute a b e = sym (at_place a) ∙ ap attribute_at e ∙ at_place b

-- an element without attributes has no value
bare_none : (kind : Kind) (a : Attribute) → value_of (bare kind) a ≡ None
unfolding value_of
bare_none kind attribute.Id = refl
bare_none kind attribute.Shown = refl
bare_none kind attribute.Opacity = refl
bare_none kind attribute.Matrix = refl
bare_none kind attribute.X = refl
bare_none kind attribute.Y = refl
bare_none kind attribute.Width = refl
bare_none kind attribute.Height = refl
bare_none kind attribute.ViewBox = refl
bare_none kind attribute.Aspect = refl
bare_none kind attribute.Overflow = refl

-- a value that an element has after one attribute was changed is that one's new value, or one that it had
changed_value : (e : Element) (a b : Attribute) (o : Option Value) (v : Value) → value_of (with_value e a o) b ≡ Some v → ((a ≡ b) × (o ≡ Some v)) ⊎ (value_of e b ≡ Some v)
unfolding value_of
changed_value e a b o v is =
    elim (cases_eq (place_of b) (place_of a)) [
      | inr other ↦ inr (sym (get_or-set_other e.attributes (place_of a) (place_of b) o None other) ∙ is)
      | inl same ↦
          elim (cases_lt (place_of a) (length e.attributes)) [
            | inl inside ↦
                inl (
                  same_attribute a b (sym same),
                  sym (get_or-set_same e.attributes (place_of a) o None inside) ∙ ap (λ (k : ℕ). get_or (set e.attributes (place_of a) o) k None) (sym same) ∙ is,
                )
            | inr past ↦ inr (ap (λ (xs : List (Option Value)). get_or xs (place_of b) None) (sym (set_past e.attributes (place_of a) o past)) ∙ is)
          ]
    ]

-- NUMBERS

none_empty : (xs : List ℕ) → nonempty xs ≡ false → length xs ≡ 0
none_empty [] is = refl
none_empty (x ∷ xs) is = absurd (true≢false is)

-- LEVELS

-- fuel that suffices does not matter
climb_enough : (m : Model) → ((n : ℕ) → 0 < n → n < count m → (item m n).parent < n) → (f g n : ℕ) → n ≤ f → n ≤ g → n < count m → climb m f n ≡ climb m g n
unfolding climb
climb_enough m before zero zero n h j l = refl
climb_enough m before zero (suc g) n h j l = sym (cond-true _ _ _ (eq-eqb n 0 (omega arith)))
climb_enough m before (suc f) zero n h j l = cond-true _ _ _ (eq-eqb n 0 (omega arith))
climb_enough m before (suc f) (suc g) n h j l =
    elim (cases_eq n 0) [
      | inl e ↦ cond-true _ _ _ (eq-eqb n 0 e) ∙ sym (cond-true _ _ _ (eq-eqb n 0 e))
      | inr e ↦
          let up : (item m n).parent < n = before n (omega arith) l in
          ap (λ (k : ℕ). cond (eqb n 0) 1 (k + 1)) (climb_enough m before f g (item m n).parent (omega arith) (omega arith) (omega arith))
    ]

-- the level of a node rests on the parents above it
climb_same : (m m' : Model) (c : ℕ) → ((n : ℕ) → 0 < n → n < c → (item m n).parent < n) → ((n : ℕ) → n < c → (item m' n).parent ≡ (item m n).parent) →
    (f n : ℕ) → n < c → climb m' f n ≡ climb m f n
unfolding climb
climb_same m m' c before same zero n l = refl
climb_same m m' c before same (suc f) n l =
    elim (cases_eq n 0) [
      | inl e ↦ cond-true _ _ _ (eq-eqb n 0 e) ∙ sym (cond-true _ _ _ (eq-eqb n 0 e))
      | inr e ↦
          let up : (item m n).parent < n = before n (omega arith) l in
          ap (λ (k : ℕ). cond (eqb n 0) 1 (climb m' f k + 1)) (same n l)
          ∙ ap (λ (k : ℕ). cond (eqb n 0) 1 (k + 1)) (climb_same m m' c before same f (item m n).parent (omega arith))
    ]

climb_step : (m : Model) (f n : ℕ) → 0 < n → climb m (suc f) n ≡ climb m f (item m n).parent + 1
unfolding climb
climb_step m f n h = cond-false _ _ _ (ne_eqb n 0 (λ e. omega arith))

-- A DOCUMENT BEGINS

sound_beginning : (options : Options) → good_options options ≡ true → Sound (beginning options)
unfolding climb
sound_beginning options good =
    record {
      options = good;
      some = omega arith;
      root = refl;
      few = omega arith;
      before = λ n h l. absurd (omega arith);
      under = λ n h l. absurd (omega arith);
      shallow = λ n l. let e : n ≡ 0 = omega arith in rw e (omega arith);
      single = λ n l shows. omega arith;
      values = λ n l a value is.
          let e : n ≡ 0 = omega arith in
          let none : None ≡ Some value = sym (bare_none Svg a) ∙ ap (λ (k : ℕ). value_of (item (beginning options) k).element a) (sym e) ∙ is in
          cc;
    }

-- A NODE MORE

at_all : (r : Role) (has_child : Bool) → role_takes_child r has_child ≡ true → role_takes_child r false ≡ true
at_all role.Svg has_child takes = refl
at_all role.G has_child takes = refl
at_all role.Use has_child takes = refl
at_all role.Symbol has_child takes = refl
at_all role.Leaf has_child takes = takes
at_all role.Other has_child takes = refl

module _ (m : Model) (p : ℕ) (kind : Kind) (sound : Sound m) (known : p < count m) (takes : takes_child (item m p).element.kind (nonempty (children m p)) ≡ true) (room : count m < max_nodes)
    (flat : level m p < max_levels) where
  abbrev n : ℕ
  n = count m

  abbrev m' : Model
  m' = with_child m p kind

  more : count m' ≡ n + 1
  more = length_push m.items (record { element = bare kind; parent = p })

  old : (k : ℕ) → k < n → item m' k ≡ item m k
  old k h = get_or_append_left m.items (record { element = bare kind; parent = p } ∷ []) no_item k h

  new : item m' n ≡ record { element = bare kind; parent = p }
  new = get_or_push m.items (record { element = bare kind; parent = p }) no_item n refl

  -- an old node or the new one
  either : (k : ℕ) → k < count m' → (k < n) ⊎ (k ≡ n)
  either k h = elim (cases_lt k n) [ inl l ↦ inl l | inr l ↦ inr (omega (arith, more)) ]

  -- what takes a child takes one where it has none
  takes_one : takes_child (item m p).element.kind false ≡ true
  takes_one = at_all (role_of (item m p).element.kind) (nonempty (children m p)) takes

  before' : (k : ℕ) → 0 < k → k < count m' → (item m' k).parent < k
  before' k h l =
      elim (either k l) [
        | inl o ↦ omega (arith, ap (λ (it : Item). it.parent) (old k o), sound.before k h o)
        | inr o ↦ omega (arith, ap (λ (j : ℕ). (item m' j).parent) o ∙ ap (λ (it : Item). it.parent) new)
      ]

  under' : (k : ℕ) → 0 < k → k < count m' → takes_child (item m' (item m' k).parent).element.kind false ≡ true
  under' k h l =
      elim (either k l) [
        | inl o ↦
            let up : (item m k).parent < k = sound.before k h o in
            ap (λ (it : Item). takes_child (item m' it.parent).element.kind false) (old k o)
            ∙ ap (λ (it : Item). takes_child it.element.kind false) (old (item m k).parent (omega arith))
            ∙ sound.under k h o
        | inr o ↦
            ap (λ (j : ℕ). takes_child (item m' (item m' j).parent).element.kind false) o
            ∙ ap (λ (it : Item). takes_child (item m' it.parent).element.kind false) new
            ∙ ap (λ (it : Item). takes_child it.element.kind false) (old p known)
            ∙ takes_one
      ]

  shallow' : (k : ℕ) → k < count m' → level m' k ≤ max_levels
  shallow' k l =
      elim (either k l) [
        | inl o ↦ omega (arith, climb_same m m' n sound.before (λ j i. ap (λ (it : Item). it.parent) (old j i)) k k o, sound.shallow k o)
        | inr o ↦
            let fuel : n ≡ suc (n - 1) = omega arith in
            let here : level m' k ≡ climb m' (suc (n - 1)) n = ap (λ (j : ℕ). climb m' j j) o ∙ ap (λ (j : ℕ). climb m' j n) fuel in
            let one : climb m' (suc (n - 1)) n ≡ climb m' (n - 1) (item m' n).parent + 1 = climb_step m' (n - 1) n (omega arith) in
            let two : climb m' (n - 1) (item m' n).parent ≡ level m p =
            ap (λ (it : Item). climb m' (n - 1) it.parent) new
            ∙ climb_same m m' n sound.before (λ j i. ap (λ (it : Item). it.parent) (old j i)) (n - 1) p known
            ∙ climb_enough m sound.before (n - 1) p p (omega arith) (omega arith) known in
            omega arith
      ]

  -- the children that there were, and the new one
  children_more : (q : ℕ) → children m' q ≡ children m q ++ cond (eqb p q) (n ∷ []) []
  children_more q =
      let fuel : count m' - 1 ≡ n - 1 + 1 = omega (arith, more) in
      let last : n ≡ 1 + (n - 1) = omega arith in
      ap (λ (j : ℕ). filter (λ k. eqb (item m' k).parent q) (range_with_len 1 j)) fuel
      ∙ kept_more (λ k. eqb (item m' k).parent q) (n - 1) 1 n last
      ∙ ap (λ (ks : List ℕ). ks ++ cond (eqb (item m' n).parent q) (n ∷ []) [])
      (kept_same (λ k. eqb (item m' k).parent q) (λ k. eqb (item m k).parent q) (n - 1) 1 (λ j h l. ap (λ (it : Item). eqb it.parent q) (old j (omega arith))))
      ∙ ap (λ (it : Item). children m q ++ cond (eqb it.parent q) (n ∷ []) []) new

  children_other : (q : ℕ) → p ≢ q → children m' q ≡ children m q
  children_other q other = children_more q ∙ ap (λ (ks : List ℕ). children m q ++ ks) (cond-false _ _ _ (ne_eqb p q other)) ∙ append-nil (children m q)

  -- a use that takes a child has none
  childless : role_of (item m p).element.kind ≡ role.Use → length (children m p) ≡ 0
  childless shows =
      none_empty (children m p)
      (not-true (nonempty (children m p)) (ap (λ (r : Role). role_takes_child r (nonempty (children m p))) (sym shows) ∙ takes))

  -- no node has the new one for its parent
  none_yet : children m n ≡ []
  none_yet = none_kept (λ k. eqb (item m k).parent n) (n - 1) 1 (λ j h l. ne_eqb (item m j).parent n (λ e. omega (arith, sound.before j (omega arith) (omega arith))))

  single' : (k : ℕ) → k < count m' → role_of (item m' k).element.kind ≡ role.Use → length (children m' k) ≤ 1
  single' k l shows =
      elim (either k l) [
        | inl o ↦
            elim (cases_eq p k) [
              | inl same ↦
                  let is : role_of (item m p).element.kind ≡ role.Use = ap (λ (j : ℕ). role_of (item m j).element.kind) same ∙ ap (λ (it : Item). role_of it.element.kind) (sym (old k o)) ∙ shows in
                  let grown : length (children m' k) ≡ length (children m k) + length (cond (eqb p k) (n ∷ []) []) = ap length (children_more k) ∙ length-append (children m k) (cond (eqb p k) (n ∷ []) []) in
                  let one : length (cond (eqb p k) (n ∷ []) []) ≡ 1 = ap length (cond-true (eqb p k) (n ∷ []) [] (eq-eqb p k same)) in
                  let none : length (children m k) ≡ 0 = ap (λ (j : ℕ). length (children m j)) (sym same) ∙ childless is in
                  omega arith
              | inr other ↦
                  omega (arith, ap length (children_other k other), sound.single k o (ap (λ (it : Item). role_of it.element.kind) (sym (old k o)) ∙ shows))
            ]
        | inr o ↦
            let none : length (children m' k) ≡ 0 = ap (λ (j : ℕ). length (children m' j)) o ∙ ap length (children_other n (omega arith) ∙ none_yet) in
            omega arith
      ]

  values' : (k : ℕ) → k < count m' → (a : Attribute) (value : Value) → value_of (item m' k).element a ≡ Some value → FitFor k (item m' k).element.kind a value
  values' k l a value is =
      elim (either k l) [
        | inl o ↦
            let P : Item → Type 0 = λ it. FitFor k it.element.kind a value in
            subst P (sym (old k o)) (sound.values k o a value (ap (λ (it : Item). value_of it.element a) (sym (old k o)) ∙ is))
        | inr o ↦
            let none : None ≡ Some value = sym (bare_none kind a) ∙ ap (λ (it : Item). value_of it.element a) (sym new) ∙ ap (λ (j : ℕ). value_of (item m' j).element a) (sym o) ∙ is in
            cc
      ]

  sound_child : Sound m'
  sound_child =
      record {
        options = sound.options;
        some = omega (arith, more);
        root = ap (λ (it : Item). it.element.kind) (old 0 sound.some) ∙ sound.root;
        few = omega (arith, more);
        before = before';
        under = under';
        shallow = shallow';
        single = single';
        values = values';
      }

-- AN ATTRIBUTE CHANGED

module _ (m : Model) (n : ℕ) (a : Attribute) (o : Option Value) (sound : Sound m) (known : n < count m) (fit : (value : Value) → o ≡ Some value → FitFor n (item m n).element.kind a value) where
  abbrev changed_item : Item
  changed_item = record { element = with_value (item m n).element a o; parent = (item m n).parent }

  abbrev mₐ : Model
  mₐ = with_attribute m n a o

  as_many : count mₐ ≡ count m
  as_many = length-set m.items n changed_item

  others : (k : ℕ) → k ≢ n → item mₐ k ≡ item m k
  others k other = get_or-set_other m.items n k changed_item no_item other

  itself : item mₐ n ≡ changed_item
  itself = get_or-set_same m.items n changed_item no_item known

  parents_same : (k : ℕ) → (item mₐ k).parent ≡ (item m k).parent
  parents_same k =
      elim (cases_eq k n) [
        | inl e ↦ ap (λ (j : ℕ). (item mₐ j).parent) e ∙ ap (λ (it : Item). it.parent) itself ∙ ap (λ (j : ℕ). (item m j).parent) (sym e)
        | inr e ↦ ap (λ (it : Item). it.parent) (others k e)
      ]

  kinds_same : (k : ℕ) → (item mₐ k).element.kind ≡ (item m k).element.kind
  kinds_same k =
      elim (cases_eq k n) [
        | inl e ↦ ap (λ (j : ℕ). (item mₐ j).element.kind) e ∙ ap (λ (it : Item). it.element.kind) itself ∙ ap (λ (j : ℕ). (item m j).element.kind) (sym e)
        | inr e ↦ ap (λ (it : Item). it.element.kind) (others k e)
      ]

  children_same : (k : ℕ) → children mₐ k ≡ children m k
  children_same k =
      ap (λ (f : ℕ → ℕ). filter (λ j. eqb (f j) k) (range_with_len 1 (count mₐ - 1))) (fun_ext parents_same)
      ∙ ap (λ (c : ℕ). filter (λ j. eqb (item m j).parent k) (range_with_len 1 (c - 1))) as_many

  values_at : (k : ℕ) → k < count mₐ → (b : Attribute) (value : Value) → value_of (item mₐ k).element b ≡ Some value → FitFor k (item mₐ k).element.kind b value
  values_at k l b value is =
      subst (λ (kind : Kind). FitFor k kind b value) (sym (kinds_same k))
      (elim (cases_eq k n) [
        | inr e ↦ sound.values k (omega (arith, as_many)) b value (ap (λ (it : Item). value_of it.element b) (sym (others k e)) ∙ is)
        | inl e ↦
            subst (λ (j : ℕ). FitFor j (item m j).element.kind b value) (sym e)
            (elim
            (changed_value (item m n).element a b o value
            (ap (λ (it : Item). value_of it.element b) (sym itself) ∙ ap (λ (j : ℕ). value_of (item mₐ j).element b) (sym e) ∙ is)) [
              | inl new ↦ subst (λ (c : Attribute). FitFor n (item m n).element.kind c value) new.0 (fit value new.1)
              | inr old ↦ sound.values n known b value old
            ])
      ])

  sound_attribute : Sound mₐ
  sound_attribute =
      record {
        options = sound.options;
        some = omega (arith, as_many, sound.some);
        root = kinds_same 0 ∙ sound.root;
        few = omega (arith, as_many, sound.few);
        before = λ k h l. omega (arith, parents_same k, sound.before k h (omega (arith, as_many)));
        under = λ k h l. ap (λ (j : ℕ). takes_child (item mₐ j).element.kind false) (parents_same k) ∙ ap (λ (kind : Kind). takes_child kind false) (kinds_same (item m k).parent) ∙ sound.under k h (omega (arith, as_many));
        shallow = λ k l.
            let inside : k < count m = omega (arith, as_many) in
            omega (arith, climb_same m mₐ (count m) sound.before (λ j i. parents_same j) k k inside, sound.shallow k inside);
        single = λ k l shows. omega (arith, ap length (children_same k), sound.single k (omega (arith, as_many)) (ap role_of (sym (kinds_same k)) ∙ shows));
        values = values_at;
      }

-- A CALL

-- what is left is sound, whether the call was refused or not
sound_changed : (refusal : Option Refusal) (before after : Model) → Sound before → (refusal ≡ None → Sound after) → Sound (changed refusal before after)
sound_changed (Some e) before after sound accepted = sound
sound_changed None before after sound accepted = accepted refl

module _ (m : Model) (sound : Sound m) where
  sound_add : (lent p : ℕ) (kind : Kind) → Sound (add_step lent m p kind).document
  sound_add lent p kind =
      sound_changed
      (first_of (add_checks lent (count m) (ltb p (count m)) (item m p).element.kind (nonempty (children m p)) (level m p)))
      m (with_child m p kind) sound
      (λ accepted.
      let each = passes (add_checks lent (count m) (ltb p (count m)) (item m p).element.kind (nonempty (children m p)) (level m p)) accepted in
      sound_child m p kind sound
      (ltb-true p (count m) (not-false (ltb p (count m)) each.0))
      (not-false (takes_child (item m p).element.kind (nonempty (children m p))) each.1.0)
      (omega (arith, leb-false (min lent max_nodes) (count m) each.1.1.0))
      (leb-false max_levels (level m p) each.1.1.1.0))

  sound_set : (n : ℕ) (a : Attribute) (value : Value) → Sound (set_step m n a value).document
  sound_set n a value =
      sound_changed
      (first_of (set_checks (ltb n (count m)) (eqb n 0) (item m n).element.kind a value))
      m (with_attribute m n a (Some value)) sound
      (λ accepted.
      let each = passes (set_checks (ltb n (count m)) (eqb n 0) (item m n).element.kind a value) accepted in
      let both = and_parts (takes_attribute (eqb n 0) (item m n).element.kind a) ((row a).form value) (not-false (takes_attribute (eqb n 0) (item m n).element.kind a && (row a).form value) each.1.0) in
      sound_attribute m n a (Some value) sound
      (ltb-true n (count m) (not-false (ltb n (count m)) each.0))
      (λ v is.
      let same : value ≡ v = cc in
      subst (λ (x : Value). FitFor n (item m n).element.kind a x) same
      (record { taken = both.0; form = both.1; range = not-false ((row a).range value) each.1.1.0 })))

  sound_unset : (n : ℕ) (a : Attribute) → Sound (unset_step m n a).document
  sound_unset n a =
      sound_changed
      (first_of (unset_checks (ltb n (count m)) (eqb n 0) (item m n).element.kind a))
      m (with_attribute m n a None) sound
      (λ accepted.
      let each = passes (unset_checks (ltb n (count m)) (eqb n 0) (item m n).element.kind a) accepted in
      sound_attribute m n a None sound
      (ltb-true n (count m) (not-false (ltb n (count m)) each.0))
      (λ v is. cc))

sound_turn : (lent : ℕ) (m : Model) (c : Call) → Sound m → Sound (turn lent m c).document
sound_turn lent m (call.Add p kind) sound = sound_add m sound lent p kind
sound_turn lent m (call.Set n a value) sound = sound_set m sound n a value
sound_turn lent m (call.Unset n a) sound = sound_unset m sound n a

pub sound_edited : (lent : ℕ) (m : Model) (calls : List Call) → Sound m → Sound (edited lent m calls)
unfolding edited
sound_edited lent m [] sound = sound
sound_edited lent m (c ∷ calls) sound = sound_edited lent (turn lent m c).document calls (sound_turn lent m c sound)

-- A RUN

sound_new : (lent : ℕ) (options : Options) (m : Model) → new_step lent options ≡ Ok m → Sound m
sound_new lent options m is =
    let accepted : first_of (new_checks lent options) ≡ None = not_refused (first_of (new_checks lent options)) (beginning options) m is in
    let each = passes (new_checks lent options) accepted in
    let made : Ok (beginning options) ≡ Ok m = ap (λ (r : Option Refusal). unless r (beginning options)) (sym accepted) ∙ is in
    let same : beginning options ≡ m = cc in
    subst Sound same (sound_beginning options (not-false (good_options options) each.1.0))

after_from : (lent : ℕ) (r : Result Model Refusal) (calls : List Call) (m : Model) → ((x : Model) → r ≡ Ok x → Sound x) → after_new lent r calls ≡ Ok m → Sound m
after_from lent (Err e) calls m each is = cc
after_from lent (Ok x) calls m each is = let same : edited lent x calls ≡ m = cc in subst Sound same (sound_edited lent x calls (each x refl))

pub sound_after : (options : Options) (lent : ℕ) (calls : List Call) (m : Model) → after options lent calls ≡ Ok m → Sound m
sound_after options lent calls m is = after_from lent (new_step lent options) calls m (λ x. sound_new lent options x) is
