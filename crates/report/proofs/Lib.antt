pub mod Joining
pub mod VolumeLines
pub mod VolumeNames
