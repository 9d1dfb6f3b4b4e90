use Rattle.typing.proofs.Names.{ident_typed, ident_bit, ident-param, ident_wire}
use Rattle.typing.proofs.cases.ident_type.Goals as goal

pub returns-in-Classical : goal.returns-in-Classical
returns-in-Classical c = ident_typed _ _ c.in-Classical.is c.has_type-in-Classical.ensures

pub returns-in-Bit : goal.returns-in-Bit
returns-in-Bit c = ident_bit _ _ c.in-Bit.is c.has_type.ensures

pub returns-in-GateParam : goal.returns-in-GateParam
returns-in-GateParam c = ident-param _ _ c.in-GateParam.is c.has_type-in-GateParam.ensures

pub returns-in-Qubit : goal.returns-in-Qubit
returns-in-Qubit c = ident_wire _ _ c.in-Qubit.is c.refuse.ensures
