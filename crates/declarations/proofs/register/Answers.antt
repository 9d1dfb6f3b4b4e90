use Rattle.promises.specs.Walks.{state_of}
use Rattle.promises.specs.WalkLaws.{passed-ready}
use Rattle.declarations.proofs.Declares.{register-walked}
use Rattle.declarations.proofs.register.Goals as goal

pub returns : goal.returns
returns c ks marks placed =
    let d = c.declaration_at-d.ensures in
    register-walked _ ks _ (state_of _ _ marks) c.args.here.accepted _ _ (passed-ready c.requires.0 placed) _ d.next d.after (d.span _) c.declare-s.ensures c.requires.1 c.requires.2
