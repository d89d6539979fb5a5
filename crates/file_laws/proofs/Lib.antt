pub mod TextsOf
pub mod FormOf
pub mod PhysicalOf
pub mod UnfoldedOf
pub mod TreeOf
