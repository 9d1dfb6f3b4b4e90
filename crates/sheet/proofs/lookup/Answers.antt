use Rattle.std.proofs.Common.{refl, ap, ◌∙◌, rules, arith}
use Rattle.std.proofs.lemmas.List.{length_push}
use Rattle.sheet.specs.Sheet.{marked}
use Rattle.sheet.proofs.Looking.{looking-more, looking-end}
use Rattle.sheet.proofs.Pairs.{pair_turn, pair_end}
use Rattle.sheet.proofs.Answers.{looked_up}
use Rattle.sheet.proofs.lookup.Goals as goal

pub loop-met_key-preserved : goal.loop-met_key-preserved
loop-met_key-preserved c =
    let l = c.loop-met_key in
    let t = pair_turn c.args.keys.now c.args.sheet.now _ _ _ c.next.new.self _ l.yielded_by c.next.ensures.steps (search rules) (search rules) _ c.in-Some.is in
    rw (length_push l.yielded) (looking-more _ _ _ _ l.invariant _ _ t.0 (rw (t.1, t.2) at c.met-own.ensures) (rw (t.1, t.2) at c.met-whole.ensures))

pub returns : goal.returns
returns c =
    let l = c.loop-met_key in
    let n = pair_end c.args.keys.now c.args.sheet.now _ _ _ c.next.new.self _ l.yielded_by c.next.ensures.steps (search rules) (search rules) c.in-None.is (omega arith) in
    c.marked.ensures ∙ ap marked (looked_up _ _ _ _ _ _ _ refl refl (looking-end _ _ _ _ l.invariant _ n c.either.ensures))
