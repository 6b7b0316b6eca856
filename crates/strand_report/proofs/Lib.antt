pub mod CountLoop
pub mod FieldLines
pub mod LastLine
pub mod MarkLoop
pub mod MemberLines
pub mod NumberedLoop
pub mod TextParts
