-- The laws of a block's form. Where a byte stands in a block, which coefficient it is of, and
-- whether it is right: `FreeBytes`.
pub mod FreeBytes
