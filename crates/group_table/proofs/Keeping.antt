-- What holds of a table holds of it with one entry more. Assumes nothing.
use Rattle.std.proofs.Common.{◌≡◌, ℕ, zero, suc, ◌+◌, ◌<◌, ◌≤◌, min, true, ◌⊎◌, List, [], ◌∷◌, ◌++◌, map, length, take, set, Some, None, Option, sym, refl, ap, ◌∙◌, subst, inl, inr, add-one, arith}
use mathlib.Core.List.{map-append}
use Rattle.std.specs.List.{slice_get}
use Rattle.std.specs.Option.{ForSome, ForNone}
use Rattle.std.proofs.lemmas.List.{length-map, length-set, length-take-le, take_more_set, take_at, get_or-set_same, get_or-set_other}
use Rattle.std.proofs.lemmas.Bool.{cases_lt, cases_eq, false≢true}
use Rattle.record.specs.Zero.{zeroed_record}
use Rattle.record.specs.Records.{Record}
use Rattle.record.specs.declared.Event.TheVariants as variants
use Rattle.sink.specs.Meaning.{most_places}
use Rattle.sink.specs.declared.room.Room.{Room}
use Rattle.sink.specs.Rooms.{IsRoomOf}
use Rattle.group_table.specs.declared.entry.Entry.{Entry}
use Rattle.group_table.specs.declared.table.Turn.{Turn}
use Rattle.group_table.specs.Entries.{Item, at, blank, record_of, script_of, Within, new_entry, with_first, with_next, tied}
use Rattle.group_table.specs.Links.{same, is_child, around, last_below, first_child_of, next_sibling_of}
use Rattle.group_table.specs.Invariant.{last_child, Ends, GoesOn, AllClosed, meaning_with, LinksOf, Linked}
use Rattle.group_table.proofs.Scans.{same_refl, same_true, none_some}
use Rattle.group_table.proofs.Levels.{around_before}
use Rattle.group_table.proofs.Nesting.{last_child_before}
use Rattle.group_table.proofs.Growing.{nth_last, around_same, first_kept, first_new, next_kept, next_new, first_last, next_last}

-- ---- the script of entries

pub length_script : (es : List Entry) (n : ℕ) → n ≤ length es → length (script_of es n) ≡ n
length_script es n h = length-map (take n es) (λ e. zeroed_record (record_of e.item)) ∙ length-take-le n es h

pub script_push : (es : List Entry) (n : ℕ) (e : Entry) → n < length es → script_of (set es n e) (n + 1) ≡ script_of es n ++ zeroed_record (record_of e.item) ∷ []
script_push es n e h =
    ap (map (λ e. zeroed_record (record_of e.item))) (take_more_set es n e h) ∙ map-append (λ e. zeroed_record (record_of e.item)) (take n es) (e ∷ [])

-- a write that leaves the item leaves the script
script_set : (es : List Entry) (i : ℕ) (e : Entry) (n : ℕ) → e.item ≡ (at es i).item → script_of (set es i e) n ≡ script_of es n
script_set [] i e n is = refl
script_set (x ∷ es) zero e zero is = refl
script_set (x ∷ es) zero e (suc n) is = ap (λ (k : Item). zeroed_record (record_of k) ∷ script_of es n) is
script_set (x ∷ es) (suc i) e zero is = refl
script_set (x ∷ es) (suc i) e (suc n) is = ap (λ (s : List Record). zeroed_record (record_of x.item) ∷ s) (script_set es i e n is)

-- a write that leaves a field leaves it everywhere
set_field : {X : Type 0} (f : Entry → X) (es : List Entry) (i : ℕ) (e : Entry) → i < length es → f e ≡ f (at es i) → (j : ℕ) → f (at (set es i e) j) ≡ f (at es j)
set_field f es i e h is j =
    elim (cases_eq j i) [
      | inl eq ↦ ap (λ (k : ℕ). f (at (set es i e) k)) eq ∙ ap f (get_or-set_same es i e blank h) ∙ is ∙ ap (λ (k : ℕ). f (at es k)) (sym eq)
      | inr ne ↦ ap f (get_or-set_other es i j e blank ne)
    ]

-- ---- a child tied to the others

module _ (es : List Entry) (new : ℕ) where
  pub script_tied : (parent last : Option ℕ) (n : ℕ) → script_of (tied es parent last new) n ≡ script_of es n
  script_tied parent (Some i) n = script_set es i (with_next (at es i) new) n refl
  script_tied (Some i) None n = script_set es i (with_first (at es i) new) n refl
  script_tied None None n = refl

  pub length_tied : (parent last : Option ℕ) → length (tied es parent last new) ≡ length es
  length_tied parent (Some i) = length-set es i (with_next (at es i) new)
  length_tied (Some i) None = length-set es i (with_first (at es i) new)
  length_tied None None = refl

  parent_tied : (parent last : Option ℕ) → Within parent (length es) → Within last (length es) → (i : ℕ) → (at (tied es parent last new) i).parent ≡ (at es i).parent
  parent_tied parent (Some i) p l = set_field (λ e. e.parent) es i (with_next (at es i) new) l refl
  parent_tied (Some i) None p l = set_field (λ e. e.parent) es i (with_first (at es i) new) p refl
  parent_tied None None p l = λ i. refl

-- ---- the links after a child was added

abbrev pub Going : List Entry → ℕ → Option Turn → Type 0
Going es n turn = ForSome turn (λ t. GoesOn es n t.room t.inside t.last)

abbrev pub Whole : List Entry → ℕ → Option Turn → Type 0
Whole es n turn = record { within : n ≤ min (length es) most_places; going : Going es n turn; ended : ForNone turn (AllClosed es n); linked : Linked es n }

pub not_ended : (turn : Turn) (P : Type 0) → ForNone (Some turn) P
not_ended turn P = λ e. let z : ◌≡◌ {A = ℕ} 0 1 = cc in absurd (omega arith)

pub turn_goes_on : (es : List Entry) (n : ℕ) (turn : Turn) → GoesOn es n turn.room turn.inside turn.last → Going es n (Some turn)
turn_goes_on es n turn is = λ t e. let same : turn ≡ t = cc in subst (λ (u : Turn). GoesOn es n u.room u.inside u.last) same is

agree : (o p : Option ℕ) → o ≡ p → same o p ≡ true
agree o p e = subst (λ (q : Option ℕ). same o q ≡ true) e (same_refl o)

upto : {i n : ℕ} → i < n + 1 → (i < n) ⊎ (i ≡ n)
upto {i} {n} h = elim (cases_lt i n) [ inl low ↦ inl low | inr high ↦ inr (omega arith) ]

module _ (es : List Entry) (n : ℕ) (within : n < length es) (linked : Linked es n) where
  abbrev now_script : List Record
  now_script = script_of es n

  len : length now_script ≡ n
  len = length_script es n (omega arith)

  pub old_parent : (i : ℕ) → i < n → (at es i).parent ≡ around now_script i
  old_parent i h = same_true _ _ (linked i h).0

  old_first : (i : ℕ) → i < n → (at es i).first_child ≡ first_child_of now_script i
  old_first i h = same_true _ _ (linked i h).1

  old_next : (i : ℕ) → i < n → (at es i).next_sibling ≡ next_sibling_of now_script i
  old_next i h = same_true _ _ (linked i h).2

  module _ (item : Item) (parent : Option ℕ) where
    abbrev with_new : List Entry
    with_new = set es n (new_entry item parent)

    in_new : (i : ℕ) → i ≤ n → i < length with_new
    in_new i h = rw (length-set es n (new_entry item parent)) (omega arith)

    pub old_at : (i : ℕ) → i < n → at with_new i ≡ at es i
    old_at i h = get_or-set_other es n i (new_entry item parent) blank (omega arith)

    pub new_at : at with_new n ≡ new_entry item parent
    new_at = get_or-set_same es n (new_entry item parent) blank within

    pub script_new : script_of with_new (n + 1) ≡ now_script ++ zeroed_record (record_of item) ∷ []
    script_new = script_push es n (new_entry item parent) within

  module _ (r : Record) where
    abbrev more : List Record
    more = now_script ++ r ∷ []

    around_old : (i : ℕ) → i ≤ n → around more i ≡ around now_script i
    around_old i h = around_same now_script r i (omega (arith, len))

    around_end : (o : Option ℕ) → o ≡ around now_script n → around now_script (length now_script) ≡ o
    around_end o e = ap (around now_script) len ∙ sym e

    last_end : (o : Option ℕ) → o ≡ last_child now_script n → last_child now_script (length now_script) ≡ o
    last_end o e = ap (last_child now_script) len ∙ sym e

    -- links that the new record does not change
    first_stays : (i : ℕ) → i < n → (is_child (Some r) ≡ true → last_child now_script (length now_script) ≡ None → around now_script (length now_script) ≡ Some i → ⊥) → (at es i).first_child ≡ first_child_of more i
    first_stays i h other = old_first i h ∙ sym (first_kept now_script r i (omega (arith, len)) other)

    next_stays : (i : ℕ) → i < n → (is_child (Some r) ≡ true → last_child now_script (length now_script) ≡ Some i → ⊥) → (at es i).next_sibling ≡ next_sibling_of more i
    next_stays i h other = old_next i h ∙ sym (next_kept now_script r i (omega (arith, len)) other)

    -- the new record's own links
    first_at_end : first_child_of more n ≡ None
    first_at_end = ap (first_child_of more) (sym len) ∙ first_last now_script r

    next_at_end : next_sibling_of more n ≡ None
    next_at_end = ap (next_sibling_of more) (sym len) ∙ next_last now_script r

    module _ (is : is_child (Some r) ≡ true) (item : Item) where
      child_first : (parent last : Option ℕ) → parent ≡ around now_script n → last ≡ last_child now_script n → (i : ℕ) → i < n
          → (at (tied (with_new item parent) parent last n) i).first_child ≡ first_child_of more i
      child_first parent (Some j) a l i h =
          set_field (λ e. e.first_child) (with_new item parent) j _ (in_new item parent j (omega (arith, last_child_before now_script n j (sym l)))) refl i
          ∙ ap (λ (e : Entry). e.first_child) (old_at item parent i h)
          ∙ first_stays i h (λ _ none _. none_some _ none (last_end (Some j) l))
      child_first None None a l i h =
          ap (λ (e : Entry). e.first_child) (old_at item None i h) ∙ first_stays i h (λ _ _ at_i. none_some _ (around_end None a) at_i)
      child_first (Some g) None a l i h = elim (cases_eq i g) [
        | inl eq ↦
            ap (λ (k : ℕ). (at (tied (with_new item (Some g)) (Some g) None n) k).first_child) eq
            ∙ ap (λ (e : Entry). e.first_child) (get_or-set_same (with_new item (Some g)) g _ blank (in_new item (Some g) g (omega (arith, around_before now_script n g (sym a)))))
            ∙ ap {B = Option ℕ} Some (sym len)
            ∙ sym (first_new now_script r i (omega (arith, len)) is (last_end None l) (around_end (Some g) a ∙ ap {B = Option ℕ} Some (sym eq)))
        | inr ne ↦
            ap (λ (e : Entry). e.first_child) (get_or-set_other (with_new item (Some g)) g i _ blank ne ∙ old_at item (Some g) i h)
            ∙ first_stays i h (λ _ _ at_i. let e = around_end (Some g) a in ne (cc))
      ]

      child_next : (parent last : Option ℕ) → parent ≡ around now_script n → last ≡ last_child now_script n → (i : ℕ) → i < n
          → (at (tied (with_new item parent) parent last n) i).next_sibling ≡ next_sibling_of more i
      child_next parent (Some j) a l i h = elim (cases_eq i j) [
        | inl eq ↦
            ap (λ (k : ℕ). (at (tied (with_new item parent) parent (Some j) n) k).next_sibling) eq
            ∙ ap (λ (e : Entry). e.next_sibling) (get_or-set_same (with_new item parent) j _ blank (in_new item parent j (omega (arith, last_child_before now_script n j (sym l)))))
            ∙ ap {B = Option ℕ} Some (sym len)
            ∙ sym (next_new now_script r i (omega (arith, len)) is (last_end (Some j) l ∙ ap {B = Option ℕ} Some (sym eq)))
        | inr ne ↦
            ap (λ (e : Entry). e.next_sibling) (get_or-set_other (with_new item parent) j i _ blank ne ∙ old_at item parent i h)
            ∙ next_stays i h (λ _ at_i. let e = last_end (Some j) l in ne (cc))
      ]
      child_next None None a l i h =
          ap (λ (e : Entry). e.next_sibling) (old_at item None i h) ∙ next_stays i h (λ _ at_i. none_some _ (last_end None l) at_i)
      child_next (Some g) None a l i h =
          set_field (λ e. e.next_sibling) (with_new item (Some g)) g _ (in_new item (Some g) g (omega (arith, around_before now_script n g (sym a)))) refl i
          ∙ ap (λ (e : Entry). e.next_sibling) (old_at item (Some g) i h)
          ∙ next_stays i h (λ _ at_i. none_some _ (last_end None l) at_i)

      -- the new entry itself is left as it was written
      child_itself : (parent last : Option ℕ) → parent ≡ around now_script n → last ≡ last_child now_script n → at (tied (with_new item parent) parent last n) n ≡ new_entry item parent
      child_itself parent (Some j) a l = get_or-set_other (with_new item parent) j n _ blank (omega (arith, last_child_before now_script n j (sym l))) ∙ new_at item parent
      child_itself None None a l = new_at item None
      child_itself (Some g) None a l = get_or-set_other (with_new item (Some g)) g n _ blank (omega (arith, around_before now_script n g (sym a))) ∙ new_at item (Some g)

  -- ---- one child more

  module _ (item : Item) (parent last : Option ℕ) (a : parent ≡ around now_script n) (l : last ≡ last_child now_script n) where
    abbrev child_record : Record
    child_record = zeroed_record (record_of item)

    abbrev with_child : List Entry
    with_child = tied (with_new item parent) parent last n

    within_parent : Within parent (length (with_new item parent))
    within_parent = go parent a
      where
        go : (o : Option ℕ) → o ≡ around now_script n → Within o (length (with_new item parent))
        go None e = tt
        go (Some g) e = in_new item parent g (omega (arith, around_before now_script n g (sym e)))

    within_last : Within last (length (with_new item parent))
    within_last = go last l
      where
        go : (o : Option ℕ) → o ≡ last_child now_script n → Within o (length (with_new item parent))
        go None e = tt
        go (Some j) e = in_new item parent j (omega (arith, last_child_before now_script n j (sym e)))

    pub script_child : script_of with_child (n + 1) ≡ now_script ++ child_record ∷ []
    script_child = script_tied (with_new item parent) n parent last (n + 1) ∙ script_new item parent

    pub child_linked : is_child (Some child_record) ≡ true → Linked with_child (n + 1)
    child_linked is = λ i h. rw script_child (elim (upto h) [
      | inl low ↦ (
        agree _ _ (parent_tied (with_new item parent) n parent last within_parent within_last i ∙ ap (λ (e : Entry). e.parent) (old_at item parent i low) ∙ old_parent i low ∙ sym (around_old child_record i (omega arith))),
        agree _ _ (child_first child_record is item parent last a l i low),
        agree _ _ (child_next child_record is item parent last a l i low),
      )
      | inr end ↦ subst (λ (j : ℕ). LinksOf (now_script ++ child_record ∷ []) j (at with_child j)) (sym end) (
        agree _ _ (ap (λ (e : Entry). e.parent) (child_itself child_record is item parent last a l) ∙ a ∙ sym (around_old child_record n (omega arith))),
        agree _ _ (ap (λ (e : Entry). e.first_child) (child_itself child_record is item parent last a l) ∙ sym (first_at_end child_record)),
        agree _ _ (ap (λ (e : Entry). e.next_sibling) (child_itself child_record is item parent last a l) ∙ sym (next_at_end child_record)),
      )
    ])

  -- ---- one close more

  pub close_linked : (parent : Option ℕ) → parent ≡ around now_script n → Linked (with_new variants.Close parent) (n + 1)
  close_linked parent a = λ i h. rw (script_new variants.Close parent) (elim (upto h) [
    | inl low ↦ (
      agree _ _ (ap (λ (e : Entry). e.parent) (old_at variants.Close parent i low) ∙ old_parent i low ∙ sym (around_old variants.Close i (omega arith))),
      agree _ _ (ap (λ (e : Entry). e.first_child) (old_at variants.Close parent i low) ∙ first_stays variants.Close i low (λ is _ _. false≢true is)),
      agree _ _ (ap (λ (e : Entry). e.next_sibling) (old_at variants.Close parent i low) ∙ next_stays variants.Close i low (λ is _. false≢true is)),
    )
    | inr end ↦ subst (λ (j : ℕ). LinksOf (now_script ++ variants.Close ∷ []) j (at (with_new variants.Close parent) j)) (sym end) (
      agree _ _ (ap (λ (e : Entry). e.parent) (new_at variants.Close parent) ∙ a ∙ sym (around_old variants.Close n (omega arith))),
      agree _ _ (ap (λ (e : Entry). e.first_child) (new_at variants.Close parent) ∙ sym (first_at_end variants.Close)),
      agree _ _ (ap (λ (e : Entry). e.next_sibling) (new_at variants.Close parent) ∙ sym (next_at_end variants.Close)),
    )
  ])

-- ---- the whole, after an open, a mark and a close

-- the new record stands at n, after the records before it
module _ (s : List Record) (n : ℕ) (len : length s ≡ n) (r : Record) where
  pub record_at : slice_get (s ++ r ∷ []) n ≡ Some r
  record_at = ap (slice_get (s ++ r ∷ [])) (sym len) ∙ nth_last s r

  pub before_at : take n (s ++ r ∷ []) ≡ s
  before_at = take_at s (r ∷ []) n len

pub ends_are : (es : List Entry) (n : ℕ) (s : List Record) (inside last : Option ℕ) → script_of es (n + 1) ≡ s → around s (suc n) ≡ inside → last_child s (suc n) ≡ last → Ends es (n + 1) inside last
ends_are es n s inside last is a l = rw (is, add-one) (agree inside _ (sym a), agree last _ (sym l))

-- nothing in use, and no turn
pub fresh : (es : List Entry) → Whole es 0 None
fresh es = record { within = omega arith; going = λ t e. let z : ◌≡◌ {A = ℕ} 0 1 = cc in absurd (omega arith); ended = λ e. refl; linked = λ i h. absurd (omega arith) }

-- a turn of nothing yet
pub begun : (es : List Entry) (room : Room) → IsRoomOf room (meaning_with es 0 true) → Whole es 0 (Some (record { room = room; inside = None; last = None }))
unfolding around last_child last_below
begun es room is = record {
  within = (fresh es).within;
  going = turn_goes_on es 0 (record { room = room; inside = None; last = None }) (is, (refl, refl));
  ended = not_ended (record { room = room; inside = None; last = None }) _;
  linked = (fresh es).linked;
}
