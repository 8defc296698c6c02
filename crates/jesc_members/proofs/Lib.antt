mod GivenLists
mod GivenFields
mod SummarySteps
mod SummaryLines
mod GroupReach
mod GroupEdges
mod GroupLists
mod InheritNumbers
mod InheritFields
mod InheritCounted
mod InheritMethods
mod InheritBare
mod InheritTyped
mod InheritKeyed
mod InheritOverrides
pub mod SummedJoins
pub mod SummedKeys
