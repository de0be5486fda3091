use Rattle.std.proofs.Common.{[], ◌∷◌, ◌∙◌, refl, ap, length, arith, length-append}
use Rattle.line.specs.Line.{head, shown}
use Rattle.line.proofs.Texts.{copied_text}
use Rattle.line.proofs.write.write_line.Goals as goal

pub returns : goal.returns
returns c =
    let h = head c.args.minute c.args.event c.args.point in
    let s = shown c.args.name.now in
    let e = c.shown_of-name.ensures in
    let headed = c.copy_from_slice.ensures.after ∙ c.head_of.ensures in
    (omega arith, omega (arith, ap length e.bytes, length-append s (10 ∷ [])), copied_text h s c.args.buffer.now _ _ _ e.bytes headed c.copy_from_slice-2.ensures.after refl e.short (omega arith))
