pub mod AcquisitionLaws
