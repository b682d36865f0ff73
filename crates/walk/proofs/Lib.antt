-- The laws of the walk: which one to cite when.
--
-- How many steps an accepted walk tells: `Steps` (steps_are). One step, whichever it is: `OneStep`
-- (step_order; step_within). That a path which does not cross never looks at the table: `Unseen`
-- (walk_unseen).
--
-- For the code, what is left of a walk: `Walking`; that a table which was accepted may be kept:
-- `Holding`.
pub mod OneStep
pub mod Steps
pub mod Walking
pub mod Unseen
pub mod Holding
