-- What an accepted feeding shows of the records that were fed.
use Rattle.std.specs.Prelude.{◌≡◌, List, map}
use Rattle.picture.specs.Script.{Balanced}
use Rattle.picture.specs.Picture.{picture}
use Rattle.picture.specs.Outline.{outline}
use Rattle.picture.specs.Feeding.{seen_behind, outline_behind}
use Rattle.record.specs.Records.{Record}
use Rattle.record.specs.Zero.{zeroed_mark}
use Rattle.sink.specs.Meaning.{Meaning, rewritten}
use Rattle.sink.specs.Base.{own_groups}
use Rattle.feed.specs.Accepting.{events}

-- The picture of the script s has the marks of the records in their order, each once; the chain of each is the sink's own groups,
-- and then its chain among the records, rewritten.
abbrev pub MarksBehind : Meaning → List Record → List Record → Type 0
MarksBehind m rs s = picture (events s) ≡ map (seen_behind (own_groups m.base) (rewritten m.rewriting) zeroed_mark) (picture (events rs))

-- Each open of the script s has its close. Its outline has the sink's own groups and then each group and each mark of the records in
-- their order, once, with the groups around it: so each group opens once, round all that it holds, empty ones too.
pub record GroupsBehind (m : Meaning) (rs s : List Record) : Type 0 where
  pub balanced : Balanced (events s)
  pub once : outline (events s) ≡ outline_behind (own_groups m.base) (rewritten m.rewriting) zeroed_mark (outline (events rs))
