-- How the records of a script lie in one another. A record is named by its place in the script.
use Rattle.std.specs.Prelude.{◌≡◌, ℕ, zero, suc, ◌+◌, ◌-◌, ◌<◌, ◌≤◌, Bool, true, false, cond, ◌&&◌, List, [], ◌∷◌, map, length, take, Some, None, Option, ◌==◌, nat_lt}
use Rattle.std.specs.List.{slice_get}
use Rattle.record.specs.declared.Group.{Group}
use Rattle.record.specs.declared.Mark.{Mark}
use Rattle.record.specs.Records.{Record}
use Rattle.record.specs.declared.Event.TheVariants as variants
use Rattle.sink.specs.Script.{level}

-- the last number below n that passes
unfoldable pub last_below : (ℕ → Bool) → ℕ → Option ℕ
last_below test zero = None
last_below test (suc n) = cond (test n) (Some n) (last_below test n)

-- the first that passes of the `left` numbers from i on
unfoldable pub first_from : (ℕ → Bool) → ℕ → ℕ → Option ℕ
first_from test zero i = None
first_from test (suc left) i = cond (test i) (Some i) (first_from test left (i + 1))

-- the same place, or none both
abbrev pub same : Option ℕ → Option ℕ → Bool
same None None = true
same None (Some b) = false
same (Some a) None = false
same (Some a) (Some b) = a == b

abbrev pub is_open : Option Record → Bool
is_open None = false
is_open (Some (variants.Open g)) = true
is_open (Some (variants.Mark m)) = false
is_open (Some variants.Close) = false

-- an open or a mark: what a group holds
abbrev pub is_child : Option Record → Bool
is_child None = false
is_child (Some (variants.Open g)) = true
is_child (Some (variants.Mark m)) = true
is_child (Some variants.Close) = false

-- how many groups are open before record n
abbrev pub level_at : List Record → ℕ → ℕ
level_at s n = level (take n s)

-- The open of the innermost group that is open before record n: the last open before n that stands one level below n.
-- So a close lies in the group that it closes.
unfoldable pub around : List Record → ℕ → Option ℕ
around s n = last_below (λ m. is_open (slice_get s m) && level_at s m + 1 == level_at s n) n

-- the first child after record n of the group that `group` opens, or of none
unfoldable pub child_after : List Record → Option ℕ → ℕ → Option ℕ
child_after s group n = first_from (λ m. is_child (slice_get s m) && same (around s m) group) (length s - (n + 1)) (n + 1)

-- ---- the links of record n: none past the end of the script, and a close is nobody's sibling

unfoldable pub parent_of : List Record → ℕ → Option ℕ
parent_of s n = cond (nat_lt n (length s)) (around s n) None

unfoldable pub first_child_of : List Record → ℕ → Option ℕ
first_child_of s n = child_after s (Some n) n

unfoldable pub next_sibling_of : List Record → ℕ → Option ℕ
next_sibling_of s n = cond (is_child (slice_get s n)) (child_after s (around s n) n) None

-- ---- what `around` means

-- record m opens a group that is still open before record n
abbrev pub Encloses : List Record → ℕ → ℕ → Type 0
Encloses s m n = (m < n) × (is_open (slice_get s m) ≡ true) × ((k : ℕ) → m < k → k ≤ n → level_at s m < level_at s k)

-- of the groups that are open before record n, `around` gives the last to be opened; none where none is open
abbrev pub Innermost : Type 0
Innermost = (s : List Record) (n : ℕ)
    → ((m : ℕ) → around s n ≡ Some m → Encloses s m n × ((j : ℕ) → Encloses s j n → j ≤ m))
    × (around s n ≡ None → (j : ℕ) → Encloses s j n → ⊥)

-- ---- a group that holds a mark, a group with nothing in it, and a mark

abbrev pub Example : Type 0
Example = (g h : Group) (m p : Mark)
    → let s = variants.Open g ∷ variants.Mark m ∷ variants.Open h ∷ variants.Close ∷ variants.Mark p ∷ variants.Close ∷ [] in
    let all = 0 ∷ 1 ∷ 2 ∷ 3 ∷ 4 ∷ 5 ∷ 6 ∷ [] in
    (map (parent_of s) all ≡ None ∷ Some 0 ∷ Some 0 ∷ Some 2 ∷ Some 0 ∷ Some 0 ∷ None ∷ [])
    × (map (first_child_of s) all ≡ Some 1 ∷ None ∷ None ∷ None ∷ None ∷ None ∷ None ∷ [])
    × (map (next_sibling_of s) all ≡ None ∷ Some 2 ∷ Some 4 ∷ None ∷ None ∷ None ∷ None ∷ [])
