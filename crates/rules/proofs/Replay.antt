-- Acceptance told record by record, in the order of the log.
pub mod CompanyInTime
pub mod FewInCompany
pub mod InTime
pub mod PairsInTime
pub mod ReadsInTime
pub mod Replayed
