use Rattle.std.proofs.Common.{◌≡◌, ◌/◌, ◌%◌, ◌<◌, get_or, sym, ap, ◌∙◌, arith}
use Rattle.std.proofs.lemmas.Int.{ints}
use Rattle.rules.specs.declared.edges.Kind.TheVariants.{Plain, Lower, Wait}
use Rattle.rules.specs.Card.{no_span}
use Rattle.rules.specs.Edges.{edge}
use Rattle.network.proofs.Parts.{span_is}
use Rattle.steps.proofs.Numbers.{span_block}
use Rattle.steps.proofs.given.span_edge.Goals as goal

pub returns-in-0 : goal.returns-in-0
returns-in-0 c =
    let n = c.args.network.now in
    let q = c.args.number / 4 in
    let h : q < n.content.spanned = omega arith in
    let s = get_or c.spans.result.now q no_span in
    let is : get_or n.content.spans q no_span ≡ s = sym (ap (λ l. get_or l q no_span) c.spans.ensures ∙ span_is n.content q h) in
    rw (span_block n.content q h s is, c.in-0.is) (ap (edge Plain s.start s.finish) (omega (arith, ints, ap (λ x. x.least) is, ap (λ x. x.most) is, (n.last q h).2)))

pub returns-in-1 : goal.returns-in-1
returns-in-1 c =
    let n = c.args.network.now in
    let q = c.args.number / 4 in
    let h : q < n.content.spanned = omega arith in
    let s = get_or c.spans.result.now q no_span in
    let is : get_or n.content.spans q no_span ≡ s = sym (ap (λ l. get_or l q no_span) c.spans.ensures ∙ span_is n.content q h) in
    rw (span_block n.content q h s is, c.in-1.is) (ap (edge Plain s.finish s.start) (omega (arith, ints, ap (λ x. x.least) is, ap (λ x. x.most) is, (n.last q h).1, (n.last q h).2)))

pub returns-in-2 : goal.returns-in-2
returns-in-2 c =
    let n = c.args.network.now in
    let q = c.args.number / 4 in
    let h : q < n.content.spanned = omega arith in
    let s = get_or c.spans.result.now q no_span in
    let is : get_or n.content.spans q no_span ≡ s = sym (ap (λ l. get_or l q no_span) c.spans.ensures ∙ span_is n.content q h) in
    rw (span_block n.content q h s is, c.in-2.is) (ap (edge (Lower q) s.start s.finish) (omega (arith, ints, ap (λ x. x.least) is, ap (λ x. x.most) is, (n.last q h).1, (n.last q h).2)))

pub returns-in_default : goal.returns-in_default
returns-in_default c =
    let n = c.args.network.now in
    let q = c.args.number / 4 in
    let h : q < n.content.spanned = omega arith in
    let s = get_or c.spans.result.now q no_span in
    let is : get_or n.content.spans q no_span ≡ s = sym (ap (λ l. get_or l q no_span) c.spans.ensures ∙ span_is n.content q h) in
    let e : c.args.number % 4 ≡ 3 = omega arith in
    rw (span_block n.content q h s is, e) (ap (edge (Wait q) s.finish s.start) (omega (arith, ints, ap (λ x. x.least) is, ap (λ x. x.most) is, (n.last q h).2)))
