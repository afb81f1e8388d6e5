pub mod PlanRefusals
pub mod Plans
