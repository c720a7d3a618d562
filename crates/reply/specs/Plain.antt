-- How answers, failures and records are written for programs.
use Rattle.std.specs.Prelude.{ℕ, Bool, cond, List, ◌++◌, Some, None, codes, decimal, Option}
use Rattle.refusal.specs.Numbers.{number_of}
use Rattle.geom.specs.declared.matrix.Matrix.{Matrix as Transform}
use Rattle.geom.specs.declared.rect.Rect.{Rect}
use Rattle.geom.specs.declared.root.RootSize.{RootSize}
use Rattle.record.specs.Records.{Record}
use Rattle.record.specs.declared.Event.TheVariants.{Open, Mark, Close}
use Rattle.drawing.specs.Messages.{unreadable_text}
use Rattle.reply.specs.Bits.{bits_text}
use Rattle.reply.specs.declared.answer.Answer.{Answer}
use Rattle.reply.specs.declared.answer.Answer.TheVariants.{Number, Matrix, Size, Node, Done}
use Rattle.reply.specs.declared.answer.Failure.{Failure}
use Rattle.reply.specs.declared.answer.Failure.TheVariants.{Refused, Unreadable}

abbrev pub flag_text : Bool → List ℕ
flag_text flag = cond flag (codes "1") (codes "0")

abbrev pub matrix_text : Transform → List ℕ
matrix_text m =
    bits_text m.a
    ++ (codes " "
    ++ (bits_text m.b
    ++ (codes " "
    ++ (bits_text m.c
    ++ (codes " " ++ (bits_text m.d ++ (codes " " ++ (bits_text m.e ++ (codes " " ++ bits_text m.f)))))))))

abbrev pub size_text : RootSize → List ℕ
size_text s = codes "size " ++ (bits_text s.size.w ++ (codes " " ++ (bits_text s.size.h ++ (codes " flag " ++ flag_text s.flag))))

abbrev pub answer_text : Answer → List ℕ
answer_text (Number x) = bits_text x
answer_text (Matrix m) = matrix_text m
answer_text (Size s) = size_text s
answer_text (Node n) = codes "ok " ++ decimal n
answer_text Done = codes "ok"

abbrev pub failure_text : Failure → List ℕ
failure_text (Refused r) = codes "refused " ++ decimal (number_of r)
failure_text (Unreadable u) = unreadable_text u

-- a clip's rectangle, or that there is none
abbrev pub clip_text : Option Rect → List ℕ
clip_text None = codes "noclip"
clip_text (Some r) =
    codes "clip " ++ (bits_text r.x ++ (codes " " ++ (bits_text r.y ++ (codes " " ++ (bits_text r.w ++ (codes " " ++ bits_text r.h))))))

-- a group's id, matrix, clip and opacity; a mark's leaf and ruler
abbrev pub record_text : Record → List ℕ
record_text (Open g) =
    codes "open " ++ (decimal g.id ++ (codes " " ++ (matrix_text g.matrix ++ (codes " " ++ (clip_text g.clip ++ (codes " " ++ bits_text g.opacity))))))
record_text (Mark m) =
    codes "mark "
    ++ (decimal m.leaf ++ (codes " " ++ (bits_text m.ruler.w ++ (codes " " ++ (bits_text m.ruler.h ++ (codes " " ++ bits_text m.ruler.f))))))
record_text Close = codes "close"
