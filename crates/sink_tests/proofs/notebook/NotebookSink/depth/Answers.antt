use Rattle.sink_tests.proofs.Noting.{meaning_of, room_is}
use Rattle.sink_tests.proofs.notebook.NotebookSink.depth.Goals as goal

pub returns : goal.returns
returns c = let s = c.args.self.now in c.depth.ensures (meaning_of s) (room_is s c.in_ok-self.field-0 c.in_ok-self.was)
