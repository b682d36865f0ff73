-- The laws of an opened table: what it asks of the bytes, and what may be lent of it: `Opening`.
pub mod Opening
