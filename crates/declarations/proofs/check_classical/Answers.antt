use Rattle.accepted.specs.Stmts.{classical_decl_init}
use Rattle.declarations.proofs.Classical.{rest_at}
use Rattle.declarations.proofs.check_classical.Goals as goal

pub returns : goal.returns
returns c = rest_at _ _ _ _ _ _ _ _ _ c.skip_qualifier-k.ensures c.type_at-ty.ensures (classical_decl_init _ _ _ _ c.args.here.accepted c.requires.2 _ c.skip_qualifier-k.ensures) c.qualifier_at-q.ensures c.check_qualifier-s.ensures (let s = c.context.ensures in rw (s.0, s.1, s.2) at c.check_init.ensures)
