-- What a table's questions answer from an entry is what the script says. Assumes nothing.
use Rattle.std.proofs.Common.{◌≡◌, ℕ, zero, suc, ◌+◌, ◌-◌, ◌<◌, ◌≤◌, List, [], ◌∷◌, length, take, Some, None, sym, refl, ap, ◌∙◌, inl, inr, arith}
use Rattle.std.specs.List.{slice_get}
use Rattle.std.proofs.lemmas.Option.{slice_get_past, slice_get_within, slice_get-get_or, get_or_from_slice_get}
use Rattle.std.proofs.lemmas.List.{length-take, get_or-take}
use Rattle.std.proofs.lemmas.Bool.{cases_lt, lt-ltb, le-ltb, eq-eqb, ne_eqb, cond-true, cond-false}
use Rattle.list.specs.Places.{place_of}
use Rattle.record.specs.Zero.{zeroed_record, zeroed_group}
use Rattle.record.specs.Records.{Record}
use Rattle.group_table.specs.declared.entry.Entry.{Entry}
use Rattle.record.specs.declared.Event.TheVariants.{Open, Mark, Close}
use Rattle.group_table.specs.Entries.{Item, at, blank, id_of, record_of, script_of}
use Rattle.group_table.specs.Finding.{opened_id, group_with}
use Rattle.group_table.specs.Links.{is_child, around, first_from, child_after, parent_of, first_child_of, next_sibling_of}
use Rattle.group_table.proofs.Scans.{same_true}
use Rattle.group_table.specs.declared.table.GroupTable.{GroupTable}
use Rattle.group_table.specs.Table.{script}
use Rattle.list.specs.Bounded.{used}
use Rattle.group_table.proofs.Keeping.{length_script}
use Rattle.group_table.proofs.Steps.{held}

-- ---- reads of entries in use

read_at : (es : List Entry) (n i : ℕ) (e : Entry) → slice_get (take n es) i ≡ Some e → (i < n) × (at es i ≡ e)
read_at es n i e is =
    let low : i < n = omega (arith, slice_get_within (take n es) i e is, length-take n es) in
    (low, sym (get_or-take n es i blank low) ∙ get_or_from_slice_get (take n es) i e blank is)

read_past : (es : List Entry) (n i : ℕ) → n ≤ length es → slice_get (take n es) i ≡ None → n ≤ i
read_past es n i h is = elim (cases_lt i n) [
  | inl low ↦ let there = slice_get-get_or (take n es) i blank (omega (arith, length-take n es)) in let z : ◌≡◌ {A = ℕ} 0 1 = cc in absurd (omega arith)
  | inr high ↦ high
]

-- ---- past the end

module _ (s : List Record) (i : ℕ) (past : length s ≤ i) where
  pub no_parent : parent_of s i ≡ None
  unfolding parent_of
  no_parent = cond-false _ (around s i) None (le-ltb i (length s) past)

  pub no_first : first_child_of s i ≡ None
  unfolding first_child_of child_after first_from
  no_first = let none : length s - (i + 1) ≡ 0 = omega arith in rw none refl

  pub no_next : next_sibling_of s i ≡ None
  unfolding next_sibling_of
  no_next = cond-false _ _ None (ap is_child (slice_get_past s i past))

-- ---- the questions

module _ (t : GroupTable) (i : ℕ) where
  len : length (script t) ≡ t.entries.count
  len = length_script (held t) t.entries.count (omega (arith, t.within))

  pub past_end : slice_get (used (held t) t.entries.count) i ≡ None → length (script t) ≤ i
  past_end is =
      let h : t.entries.count ≤ length (held t) = omega (arith, t.within) in omega (arith, len, read_past (held t) t.entries.count i h is)

  module _ (e : Entry) (is : slice_get (used (held t) t.entries.count) i ≡ Some e) where
    in_use : i < t.entries.count
    in_use = (read_at (held t) t.entries.count i e is).0

    there : at (held t) i ≡ e
    there = (read_at (held t) t.entries.count i e is).1

    pub parent_read : e.parent ≡ parent_of (script t) i
    unfolding parent_of
    parent_read =
        sym (ap (λ (x : Entry). x.parent) there) ∙ same_true _ _ (t.linked i in_use).0
        ∙ sym (cond-true _ (around (script t) i) None (lt-ltb i (length (script t)) (omega (arith, len, in_use))))

    pub first_read : e.first_child ≡ first_child_of (script t) i
    first_read = sym (ap (λ (x : Entry). x.first_child) there) ∙ same_true _ _ (t.linked i in_use).1

    pub next_read : e.next_sibling ≡ next_sibling_of (script t) i
    next_read = sym (ap (λ (x : Entry). x.next_sibling) there) ∙ same_true _ _ (t.linked i in_use).2

-- ---- find

same_id : (item : Item) → opened_id (zeroed_record (record_of item)) ≡ id_of item
unfolding zeroed_group
same_id Close = refl
same_id (Open g) = refl
same_id (Mark m) = refl

place_script : (id : ℕ) (es : List Entry) (n : ℕ) → place_of (λ e. id_of e.item) id (take n es) ≡ place_of opened_id id (script_of es n)
unfolding place_of
place_script id es zero = refl
place_script id [] (suc n) = refl
place_script id (e ∷ es) (suc n) = rw (same_id e.item, place_script id es n) refl

pub found : (t : GroupTable) (id : ℕ) → (id ≡ 0 → ⊥) → place_of (λ e. id_of e.item) id (used (held t) t.entries.count) ≡ group_with (script t) id
unfolding group_with
found t id some = place_script id (held t) t.entries.count ∙ sym (cond-false _ None _ (ne_eqb id 0 some))

pub no_id : (s : List Record) (id : ℕ) → id ≡ 0 → None ≡ group_with s id
unfolding group_with
no_id s id none = sym (cond-true _ None _ (eq-eqb id 0 none))
