pub mod PlanTables
pub mod PlanForms
