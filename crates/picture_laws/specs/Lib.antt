pub mod PictureElements
pub mod MacroblockLengths
pub mod Laws
pub mod SoFar
pub mod TextLaws
