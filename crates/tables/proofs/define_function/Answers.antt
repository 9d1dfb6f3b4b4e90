use Rattle.std.proofs.Common.{arith}
use Rattle.tables.proofs.Becoming.{function_defined}
use Rattle.tables.proofs.Stores.{function_typed}
use Rattle.tables.proofs.define_function.Goals as goal

pub returns : goal.returns
returns c =
    function_defined _ _ _ _ _ _ _ _ (omega arith) (omega arith) (omega arith) c.requires.4
    (function_typed _ _ _ _ _ _ _ _ c.store_function.ensures.0 (rw c.from.ensures at c.store_types.ensures)) c.store_function.ensures.1
