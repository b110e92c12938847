-- Laws of fills and of the blocks that they give.
pub mod FillLaws
pub mod BlockLaws
