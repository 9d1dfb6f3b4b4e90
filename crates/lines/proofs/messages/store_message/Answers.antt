use Rattle.std.proofs.Common.{refl, arith}
use Rattle.sema.specs.Messages.{message_parts}
use Rattle.lines.proofs.Lines.{message-said, said-all, shown-said, then_said, said-end}
use Rattle.lines.proofs.messages.store_message.Goals as goal

pub returns-in-AlreadyDeclared : goal.returns-in-AlreadyDeclared
unfolding message_parts
returns-in-AlreadyDeclared c = message-said _ c.in-AlreadyDeclared.is c.named.ensures refl (omega arith)

pub returns-in-NotDeclared : goal.returns-in-NotDeclared
unfolding message_parts
returns-in-NotDeclared c = message-said _ c.in-NotDeclared.is c.named-in-NotDeclared.ensures refl (omega arith)

pub returns-in-ExpectedKind : goal.returns-in-ExpectedKind
unfolding message_parts
returns-in-ExpectedKind c = message-said _ c.in-ExpectedKind.is (then_said c.say-p.ensures (then_said c.say-q.ensures (said-end c.say.ensures))) refl (omega arith)

pub returns-in-CannotIndexGateQubit : goal.returns-in-CannotIndexGateQubit
unfolding message_parts
returns-in-CannotIndexGateQubit c = message-said _ c.in-CannotIndexGateQubit.is c.named-in-CannotIndexGateQubit.ensures refl (omega arith)

pub returns-in-IndexOutOfBounds : goal.returns-in-IndexOutOfBounds
unfolding message_parts
returns-in-IndexOutOfBounds c = message-said _ c.in-IndexOutOfBounds.is (then_said c.say-p-in-IndexOutOfBounds.ensures (then_said c.say-q-in-IndexOutOfBounds.ensures (then_said c.say-r.ensures (said-all c.copy.ensures)))) refl (omega arith)

pub returns-in-CannotIndex : goal.returns-in-CannotIndex
unfolding message_parts
returns-in-CannotIndex c = message-said _ c.in-CannotIndex.is c.named-in-CannotIndex.ensures refl (omega arith)

pub returns-in-SliceOutOfBounds : goal.returns-in-SliceOutOfBounds
unfolding message_parts
returns-in-SliceOutOfBounds c = message-said _ c.in-SliceOutOfBounds.is (then_said c.say-p-in-SliceOutOfBounds.ensures (then_said c.say-q-in-SliceOutOfBounds.ensures (then_said c.say-r-in-SliceOutOfBounds.ensures (then_said c.say-s.ensures (said-all c.copy-in-SliceOutOfBounds.ensures))))) refl (omega arith)

pub returns-in-CannotSlice : goal.returns-in-CannotSlice
unfolding message_parts
returns-in-CannotSlice c = message-said _ c.in-CannotSlice.is c.named-in-CannotSlice.ensures refl (omega arith)

pub returns-in-UsedIndex : goal.returns-in-UsedIndex
unfolding message_parts
returns-in-UsedIndex c = message-said _ c.in-UsedIndex.is (then_said c.say-p-in-UsedIndex.ensures (then_said c.say-q-in-UsedIndex.ensures (said-all c.copy-in-UsedIndex.ensures))) refl (omega arith)

pub returns-in-Used : goal.returns-in-Used
unfolding message_parts
returns-in-Used c = message-said _ c.in-Used.is c.around.ensures refl (omega arith)

pub returns-in-ConstWithoutInit : goal.returns-in-ConstWithoutInit
unfolding message_parts
returns-in-ConstWithoutInit c = message-said _ c.in-ConstWithoutInit.is c.named-in-ConstWithoutInit.ensures refl (omega arith)

pub returns-in-InputWithInit : goal.returns-in-InputWithInit
unfolding message_parts
returns-in-InputWithInit c = message-said _ c.in-InputWithInit.is c.named-in-InputWithInit.ensures refl (omega arith)

pub returns-in-CannotInitialize : goal.returns-in-CannotInitialize
unfolding message_parts
returns-in-CannotInitialize c = message-said _ c.in-CannotInitialize.is (then_said c.say-p-in-CannotInitialize.ensures (then_said c.say-q-in-CannotInitialize.ensures (then_said c.say-r-in-CannotInitialize.ensures (said-all c.copy-in-CannotInitialize.ensures)))) refl (omega arith)

pub returns-in-CannotAssign : goal.returns-in-CannotAssign
unfolding message_parts
returns-in-CannotAssign c = message-said _ c.in-CannotAssign.is (then_said c.say-p-in-CannotAssign.ensures (then_said c.say-q-in-CannotAssign.ensures (then_said c.say-r-in-CannotAssign.ensures (said-all c.copy-in-CannotAssign.ensures)))) refl (omega arith)

pub returns-in-CompoundNumeric : goal.returns-in-CompoundNumeric
unfolding message_parts
returns-in-CompoundNumeric c = message-said _ c.in-CompoundNumeric.is (said-all c.copy-in-CompoundNumeric.ensures) refl (omega arith)

pub returns-in-AssignToConst : goal.returns-in-AssignToConst
unfolding message_parts
returns-in-AssignToConst c = message-said _ c.in-AssignToConst.is c.named-in-AssignToConst.ensures refl (omega arith)

pub returns-in-NotAssignable : goal.returns-in-NotAssignable
unfolding message_parts
returns-in-NotAssignable c = message-said _ c.in-NotAssignable.is c.named-in-NotAssignable.ensures refl (omega arith)

pub returns-in-GateParams : goal.returns-in-GateParams
unfolding message_parts
returns-in-GateParams c = message-said _ c.in-GateParams.is (then_said c.say-p-in-GateParams.ensures (then_said c.say-q-in-GateParams.ensures (said-end c.say-in-GateParams.ensures))) refl (omega arith)

pub returns-in-GateQubits : goal.returns-in-GateQubits
unfolding message_parts
returns-in-GateQubits c = message-said _ c.in-GateQubits.is (then_said c.say-p-in-GateQubits.ensures (then_said c.say-q-in-GateQubits.ensures (said-end c.say-in-GateQubits.ensures))) refl (omega arith)

pub returns-in-GateNotDefined : goal.returns-in-GateNotDefined
unfolding message_parts
returns-in-GateNotDefined c = message-said _ c.in-GateNotDefined.is c.named-in-GateNotDefined.ensures refl (omega arith)

pub returns-in-ParamsNumeric : goal.returns-in-ParamsNumeric
unfolding message_parts
returns-in-ParamsNumeric c = message-said _ c.in-ParamsNumeric.is (said-all c.copy-in-ParamsNumeric.ensures) refl (omega arith)

pub returns-in-Broadcasting : goal.returns-in-Broadcasting
unfolding message_parts
returns-in-Broadcasting c = message-said _ c.in-Broadcasting.is (said-all c.copy-in-Broadcasting.ensures) refl (omega arith)

pub returns-in-GateAlreadyDefined : goal.returns-in-GateAlreadyDefined
unfolding message_parts
returns-in-GateAlreadyDefined c = message-said _ c.in-GateAlreadyDefined.is c.named-in-GateAlreadyDefined.ensures refl (omega arith)

pub returns-in-FunctionAlreadyDefined : goal.returns-in-FunctionAlreadyDefined
unfolding message_parts
returns-in-FunctionAlreadyDefined c = message-said _ c.in-FunctionAlreadyDefined.is c.named-in-FunctionAlreadyDefined.ensures refl (omega arith)

pub returns-in-FunctionReturns : goal.returns-in-FunctionReturns
unfolding message_parts
returns-in-FunctionReturns c = message-said _ c.in-FunctionReturns.is (then_said c.say-p-in-FunctionReturns.ensures (then_said c.say-q-in-FunctionReturns.ensures (said-end c.say-in-FunctionReturns.ensures))) refl (omega arith)

pub returns-in-MeasurementWidths : goal.returns-in-MeasurementWidths
unfolding message_parts
returns-in-MeasurementWidths c = message-said _ c.in-MeasurementWidths.is (then_said c.say-p-in-MeasurementWidths.ensures (then_said c.say-q-in-MeasurementWidths.ensures (said-all c.copy-in-MeasurementWidths.ensures))) refl (omega arith)

pub returns-in-AlreadyMeasured : goal.returns-in-AlreadyMeasured
unfolding message_parts
returns-in-AlreadyMeasured c = message-said _ c.in-AlreadyMeasured.is c.around-in-AlreadyMeasured.ensures refl (omega arith)

pub returns-in-DelayNumeric : goal.returns-in-DelayNumeric
unfolding message_parts
returns-in-DelayNumeric c = message-said _ c.in-DelayNumeric.is (said-all c.copy-in-DelayNumeric.ensures) refl (omega arith)

pub returns-in-ForVariable : goal.returns-in-ForVariable
unfolding message_parts
returns-in-ForVariable c = message-said _ c.in-ForVariable.is (said-all c.copy-in-ForVariable.ensures) refl (omega arith)

pub returns-in-ControlCount : goal.returns-in-ControlCount
unfolding message_parts
returns-in-ControlCount c = message-said _ c.in-ControlCount.is (said-all c.copy-in-ControlCount.ensures) refl (omega arith)

pub returns-in-PowerNumeric : goal.returns-in-PowerNumeric
unfolding message_parts
returns-in-PowerNumeric c = message-said _ c.in-PowerNumeric.is (said-all c.copy-in-PowerNumeric.ensures) refl (omega arith)

pub returns-in-MustHaveType : goal.returns-in-MustHaveType
unfolding message_parts
returns-in-MustHaveType c = message-said _ c.in-MustHaveType.is (then_said (shown-said c.place_name.ensures c.copy-p.ensures) (then_said c.say-q-in-MustHaveType.ensures (said-end c.say-in-MustHaveType.ensures))) refl (omega arith)

pub returns-in-NotClassical : goal.returns-in-NotClassical
unfolding message_parts
returns-in-NotClassical c = message-said _ c.in-NotClassical.is c.named-in-NotClassical.ensures refl (omega arith)

pub returns-in-CannotIndexBit : goal.returns-in-CannotIndexBit
unfolding message_parts
returns-in-CannotIndexBit c = message-said _ c.in-CannotIndexBit.is c.named-in-CannotIndexBit.ensures refl (omega arith)

pub returns-in-NotIndexable : goal.returns-in-NotIndexable
unfolding message_parts
returns-in-NotIndexable c = message-said _ c.in-NotIndexable.is c.named-in-NotIndexable.ensures refl (omega arith)

pub returns-in-FunctionNotDefined : goal.returns-in-FunctionNotDefined
unfolding message_parts
returns-in-FunctionNotDefined c = message-said _ c.in-FunctionNotDefined.is c.named-in-FunctionNotDefined.ensures refl (omega arith)

pub returns-in-FunctionArguments : goal.returns-in-FunctionArguments
unfolding message_parts
returns-in-FunctionArguments c = message-said _ c.in-FunctionArguments.is (then_said c.say-p-in-FunctionArguments.ensures (then_said c.say-q-in-FunctionArguments.ensures (said-end c.say-in-FunctionArguments.ensures))) refl (omega arith)

pub returns-in-ArgumentType : goal.returns-in-ArgumentType
unfolding message_parts
returns-in-ArgumentType c = message-said _ c.in-ArgumentType.is (then_said c.say-p-in-ArgumentType.ensures (then_said c.say-q-in-ArgumentType.ensures (then_said c.say-r-in-ArgumentType.ensures (said-end c.say-in-ArgumentType.ensures)))) refl (omega arith)

pub returns-in-NegationNumeric : goal.returns-in-NegationNumeric
unfolding message_parts
returns-in-NegationNumeric c = message-said _ c.in-NegationNumeric.is (said-all c.copy-in-NegationNumeric.ensures) refl (omega arith)

pub returns-in-ArithmeticNumeric : goal.returns-in-ArithmeticNumeric
unfolding message_parts
returns-in-ArithmeticNumeric c = message-said _ c.in-ArithmeticNumeric.is (said-all c.copy-in-ArithmeticNumeric.ensures) refl (omega arith)

pub returns-in-ComparisonTypes : goal.returns-in-ComparisonTypes
unfolding message_parts
returns-in-ComparisonTypes c = message-said _ c.in-ComparisonTypes.is (said-all c.copy-in-ComparisonTypes.ensures) refl (omega arith)
