pub mod Given
pub mod SameName
pub mod ShortMonths
pub mod ManyLeaps
pub mod Laws
