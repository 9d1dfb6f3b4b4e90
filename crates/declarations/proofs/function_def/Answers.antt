use Rattle.promises.specs.Walks.{state_of}
use Rattle.promises.specs.WalkLaws.{passed-ready}
use Rattle.declarations.proofs.Functions.{function_walked}
use Rattle.declarations.proofs.function_def.Goals as goal

pub returns : goal.returns
returns c ks marks placed = function_walked _ ks _ (state_of _ _ marks) c.args.here.shallow (passed-ready c.requires.0 placed) c.function_at-f.ensures c.define-s.ensures c.check_body-r.ensures
