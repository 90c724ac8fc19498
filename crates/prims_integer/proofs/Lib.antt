mod NumberLaws
mod OperandLaws
mod PointLaws
mod ShiftLaws
mod TableLaws
