use Rattle.svgtree.proofs.Sounding.{sound_after}
use Rattle.svgtree.proofs.laws.calls_leave_sound.Goals as goal

pub returns : goal.returns
returns c = sound_after
