mod AnswerLaws
mod ByteLaws
mod OperandLaws
mod ShiftLaws
mod TableLaws
