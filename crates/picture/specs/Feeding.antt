-- A script fed to a sink that opens groups of its own around it, its base, and rewrites what it is given.
use Rattle.std.specs.Prelude.{◌≡◌, ◌+◌, ◌*◌, ◌↔◌, List, [], ◌++◌, map, length}
use Rattle.picture.specs.Script.{Script, rewrite, within, Balanced, groups_opened, marks_made}
use Rattle.picture.specs.Picture.{Seen, picture}
use Rattle.picture.specs.Outline.{Start, outline}

-- the script that such a sink then holds: the base opened, each group rewritten by f and each mark by h, the base closed
abbrev pub fed : {Group Mark Other Sign : Type 0} → List Other → (Group → Other) → (Mark → Sign) → Script Group Mark → Script Other Sign
fed base f h s = within base (map (rewrite f h) s)

-- a mark rewritten, its chain rewritten and put behind the base
abbrev pub seen_behind : {Group Mark Other Sign : Type 0} → List Other → (Group → Other) → (Mark → Sign) → Seen Group Mark → Seen Other Sign
seen_behind base f h p = record { mark = h p.mark; chain = base ++ map f p.chain }

-- an open or a mark rewritten, its chain rewritten and put behind the base
abbrev pub start_behind : {Group Mark Other Sign : Type 0} → List Other → (Group → Other) → (Mark → Sign) → Start Group Mark → Start Other Sign
start_behind base f h x = record { event = rewrite f h x.event; chain = base ++ map f x.chain }

-- the base's own groups, each inside those before it, and then an outline rewritten and put behind the base
abbrev pub outline_behind : {Group Mark Other Sign : Type 0} → List Other → (Group → Other) → (Mark → Sign) → List (Start Group Mark) → List (Start Other Sign)
outline_behind base f h xs = outline (within base []) ++ map (start_behind base f h) xs

-- LAWS, of a base, of rewritings f of groups and h of marks, and of a balanced script

-- what is fed is balanced again
abbrev pub FeedingKeepsBalance : (Group Mark Other Sign : Type 0) → Type 0
FeedingKeepsBalance Group Mark Other Sign =
    (base : List Other) (f : Group → Other) (h : Mark → Sign) (s : Script Group Mark) → Balanced s → Balanced (fed base f h s)

-- the same marks in the same order, each once, each chain rewritten and behind the base
abbrev pub FeedingKeepsThePicture : (Group Mark Other Sign : Type 0) → Type 0
FeedingKeepsThePicture Group Mark Other Sign =
    (base : List Other) (f : Group → Other) (h : Mark → Sign) (s : Script Group Mark) → Balanced s →
    picture (fed base f h s) ≡ map (seen_behind base f h) (picture s)

-- the base's groups open, and then the same groups and marks start in the same order, each in the groups that it stood in
abbrev pub FeedingKeepsTheOutline : (Group Mark Other Sign : Type 0) → Type 0
FeedingKeepsTheOutline Group Mark Other Sign =
    (base : List Other) (f : Group → Other) (h : Mark → Sign) (s : Script Group Mark) → Balanced s →
    outline (fed base f h s) ≡ outline_behind base f h (outline s)

-- and no other script is so: one that has a group twice, splits one in two, closes it early or late, or leaves it out, has another outline
abbrev pub FedIsToldByItsOutline : (Group Mark Other Sign : Type 0) → Type 0
FedIsToldByItsOutline Group Mark Other Sign =
    (base : List Other) (f : Group → Other) (h : Mark → Sign) (s : Script Group Mark) → Balanced s → (t : Script Other Sign) →
    (Balanced t × (outline t ≡ outline_behind base f h (outline s))) ↔ (t ≡ fed base f h s)

-- the groups that open are the base's and then those of the script, and the marks are the script's
abbrev pub FeedingAddsTheBaseAlone : (Group Mark Other Sign : Type 0) → Type 0
FeedingAddsTheBaseAlone Group Mark Other Sign =
    (base : List Other) (f : Group → Other) (h : Mark → Sign) (s : Script Group Mark) →
    (groups_opened (fed base f h s) ≡ base ++ map f (groups_opened s)) × (marks_made (fed base f h s) ≡ map h (marks_made s))

-- so many groups and marks there are, and so many events
abbrev pub FeedingCounts : (Group Mark Other Sign : Type 0) → Type 0
FeedingCounts Group Mark Other Sign =
    (base : List Other) (f : Group → Other) (h : Mark → Sign) (s : Script Group Mark) →
    (length (groups_opened (fed base f h s)) ≡ length base + length (groups_opened s))
    × (length (marks_made (fed base f h s)) ≡ length (marks_made s))
    × (length (fed base f h s) ≡ 2 * length base + length s)

-- fed to a second sink, what a first one holds stands as if fed at once: the second base around the first one rewritten
abbrev pub FeedingTwiceIsFeedingOnce : (Group Mark Other Sign Third Token : Type 0) → Type 0
FeedingTwiceIsFeedingOnce Group Mark Other Sign Third Token =
    (base : List Other) (f : Group → Other) (h : Mark → Sign) (base' : List Third) (f' : Other → Third) (h' : Sign → Token) (s : Script Group Mark) →
    fed base' f' h' (fed base f h s) ≡ fed (base' ++ map f' base) (λ g. f' (f g)) (λ m. h' (h m)) s
