use Rattle.operations.proofs.Measured.{measured-first, measured-again}
use Rattle.operations.proofs.measures.warn_measured.Goals as goal

pub returns-then-is_none : goal.returns-then-is_none
returns-then-is_none c = measured-first _ _ _ _ _ _ c.lookup.ensures _ c.is_none.ensures _ c.if-is_none.true

pub returns : goal.returns
returns c = measured-again _ _ _ _ _ _ c.lookup.ensures _ c.is_none.ensures c.args.qubit _ c.warning.ensures c.if-is_none.false c.report.ensures
