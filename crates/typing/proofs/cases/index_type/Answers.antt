use Rattle.typing.proofs.Names.{index-other, index_unsized, index-inside, index-beyond}
use Rattle.typing.proofs.cases.index_type.Goals as goal

pub returns-then-not-is_bit : goal.returns-then-not-is_bit
returns-then-not-is_bit c = index-other _ _ _ c.args.symbol c.is_bit.ensures c.if-not-is_bit.true c.refuse.ensures

pub returns-in_default : goal.returns-in_default
returns-in_default c = index_unsized _ _ _ c.args.symbol c.is_bit.ensures c.if-not-is_bit.false c.in_default.is c.refuse-in_default.ensures

pub returns-then-i-n : goal.returns-then-i-n
returns-then-i-n c = index-inside _ _ _ c.args.symbol c.is_bit.ensures c.if-not-is_bit.false c.in-Some.is c.if-i-n.true c.has_type.ensures

pub returns : goal.returns
returns c = index-beyond _ _ _ c.args.symbol c.is_bit.ensures c.if-not-is_bit.false c.in-Some.is c.if-i-n.false c.refuse-2.ensures
