-- Groups, spare groups, and what a rule gives.
use Rattle.std.specs.Prelude.{ℕ, Bool, cond, not, ◌&&◌, [], ◌∷◌, Some, None, Option, Result, Float}
use Rattle.refusal.specs.Order.{first_of, unless}
use Rattle.refusal.specs.declared.Refusal.{Refusal}
use Rattle.refusal.specs.declared.Refusal.TheVariants.{NotFinite}
use Rattle.geom.specs.F32.{whole}
use Rattle.geom.specs.Matrix.{is_identity}
use Rattle.geom.specs.Opacity.{plain}
use Rattle.geom.specs.declared.matrix.Matrix.{Matrix}
use Rattle.geom.specs.declared.rect.Rect.{Rect}
use Rattle.record.specs.declared.Group.{Group}
use Rattle.converter.specs.declared.rules.Converted.{Converted}

-- a group without clip
unfoldable pub group : ℕ → Matrix → Float → Group
group id m opacity = record { id = id; matrix = m; clip = None; opacity = opacity }

-- the group of a clip, whose decoration is plain
unfoldable pub clip_group : ℕ → Matrix → Rect → Group
clip_group id m r = record { id = id; matrix = m; clip = Some r; opacity = whole 1 }

-- a spare group: left out when its decoration is plain and both its matrix and its element's own are the identity
unfoldable pub spare : Matrix → Matrix → Float → Option Group
spare own m opacity = cond (plain opacity && is_identity m && is_identity own) None (Some (group 0 m opacity))

-- what a rule gives, where all that it uses is finite
unfoldable pub if_finite : Bool → Converted → Result Converted Refusal
if_finite ok c = unless (first_of ((not ok, NotFinite) ∷ [])) c
