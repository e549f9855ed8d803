pub mod Season
pub mod RulesTable
pub mod Table
