pub mod StepArray
