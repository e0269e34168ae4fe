-- What a reader must believe of the intake.
pub mod Intake
